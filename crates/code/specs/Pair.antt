-- A lost pair brought down to one unknown for each row: two data strips, which hold the same in every row, or a data strip with strip n.
-- Assumes nothing.
-- y i == what the lost strip holds in row i
use Rattle.std.specs.Prelude.{ℕ, ◌<◌, ◌≡◌, ◌≢◌, Bool, false}
use Rattle.std.proofs.Common.{sym, ap, ap₂, ◌∙◌, arith}
use Rattle.std.proofs.Math.Decide.{ℕ_discrete}
use Rattle.code.specs.Xor.{◌⊕◌, ⊕_self, ⊕_eq, ⊕_of_eq}
use Rattle.code.specs.Sum.{sum_to, only}
use Rattle.code.specs.SumLaws.{sum_to_nil, sum_to_two, only_byte}
use Rattle.code.specs.Code.{Agree, Same, Fails, Decided}
use Rattle.code.specs.Linear.{zeros, decided_of_zeros}
use Rattle.code.specs.Layout.{Layout, Fair, X, H, U, code, pair}
use Rattle.code.specs.LayoutLaws.{by_places, X_strip, H_strip, U_strip, X_below, H_below, U_below, pair_left, pair_right, pair_no, pair_kept}
use Rattle.code.specs.Sound.{along, Sound}
use Rattle.code.specs.SoundLaws.{balanced_sound}
use Rattle.code.specs.Stuck.{stuck_fails}
use Rattle.code.specs.AlongLaws.{strip_sum, along_nil, along_one, along_two, strip_sum_ext}

-- ---- a sound stripe that is zero at the survivors

module _ (L : Layout) (F : Fair L) (lost : ℕ → Bool) (f : ℕ → ℕ) (s : Sound L f) (z : Agree (code L) lost f zeros) where
  kept_zero : (i j : ℕ) → i < L.r → j < L.n → lost j ≡ false → f (X L i j) ≡ 0
  kept_zero i j li lj e = z.survivors (X L i j) (X_below L i j li lj) (ap lost (X_strip L i j li) ∙ e)

  row_zero : (i : ℕ) → i < L.r → lost L.n ≡ false → sum_to L.n (λ j. f (X L i j)) ≡ 0
  row_zero i li e = sym (s.rows i li) ∙ z.survivors (H L i) (H_below L i li) (ap lost (H_strip L i li) ∙ e)

  diagonal_zero : (d : ℕ) → d < L.n → lost (L.home d) ≡ false → along L (λ i j. f (X L i j)) d ≡ 0
  diagonal_zero d ld e = sym (s.diagonals d ld) ∙ z.survivors (U L d) (U_below L F d ld) (ap lost (U_strip L d) ∙ e)

  -- it is zero where its data is
  data_zero : ((i j : ℕ) → i < L.r → j < L.n → f (X L i j) ≡ 0) → Same (code L) f zeros
  data_zero h =
      record {
        all = by_places L F (λ p. f p ≡ 0) h (λ i li. s.rows i li ∙ sum_to_nil L.n _ (λ j lj. h i j li lj))
            (λ d ld. s.diagonals d ld ∙ along_nil L (λ i j. f (X L i j)) d h);
      }

-- ---- two data strips

-- y in both strips: every live diagonal has as much on the one as on the other
pub record Matched (L : Layout) (a b : ℕ) (y : ℕ → ℕ) : Type 0 where
  pub each : (d : ℕ) → d < L.n → L.home d ≢ a → L.home d ≢ b → strip_sum L y a d ≡ strip_sum L y b d

module _ (L : Layout) (F : Fair L) (a b : ℕ) (l : a < b) (lb : b < L.n) where
  two_zero : ((y : ℕ → ℕ) → Matched L a b y → (i : ℕ) → i < L.r → y i ≡ 0)
      → (f : ℕ → ℕ) → Sound L f → Agree (code L) (pair a b) f zeros → Same (code L) f zeros
  two_zero key f s z = data_zero L F (pair a b) f s z all
    where
      x : ℕ → ℕ → ℕ
      x i j = f (X L i j)

      out : (i j : ℕ) → i < L.r → j < L.n → j ≢ a → j ≢ b → x i j ≡ 0
      out i j li lj na nb = kept_zero L F (pair a b) f s z i j li lj (pair_no a b j na nb)

      both : (i : ℕ) → i < L.r → x i a ≡ x i b
      both i li =
          ⊕_eq (x i a) (x i b)
          (sym (sum_to_two L.n (x i) a b l lb (λ j lj na nb. out i j li lj na nb))
          ∙ row_zero L F (pair a b) f s z i li (pair_no a b L.n (omega arith) (omega arith)))

      matched : Matched L a b (λ i. x i a)
      matched =
          record {
            each = λ d ld na nb.
                ⊕_eq (strip_sum L (λ i. x i a) a d) (strip_sum L (λ i. x i b) b d)
                (sym (along_two L x d a b l lb out) ∙ diagonal_zero L F (pair a b) f s z d ld (pair_no a b (L.home d) na nb))
                ∙ strip_sum_ext L (λ i. x i b) (λ i. x i a) b d (λ i li. sym (both i li));
          }

      all : (i j : ℕ) → i < L.r → j < L.n → x i j ≡ 0
      all i j li lj = at (ℕ_discrete j a) (ℕ_discrete j b)
        where
          at : Dec (j ≡ a) → Dec (j ≡ b) → x i j ≡ 0
          at (yes e) q = ap (x i) e ∙ key (λ h. x h a) matched i li
          at (no na) (yes e) = ap (x i) e ∙ sym (both i li) ∙ key (λ h. x h a) matched i li
          at (no na) (no nb) = out i j li lj na nb

  -- decided where only zeros match
  pub decided_two : ((y : ℕ → ℕ) → Matched L a b y → (i : ℕ) → i < L.r → y i ≡ 0) → Decided (code L) (pair a b)
  decided_two key = decided_of_zeros (code L) (pair a b) (λ f bf z. two_zero key f (balanced_sound L F f bf) z)

  -- fails where something else does
  pub fails_two : (y : ℕ → ℕ) → ((i : ℕ) → i < L.r → y i < 256) → Matched L a b y → (i : ℕ) → i < L.r → y i ≢ 0 → Fails (code L) (pair a b)
  fails_two y small m i li ne =
      stuck_fails L F (pair a b) K
      (record {
        bytes = λ h j lh lj. only_byte (pair a b j) (y h) (small h lh);
        kept = λ h j lh lj e. ap (λ (t : Bool). only t (y h)) e;
        rows = λ h lh e. sum_to_two L.n (K h) a b l lb (λ j lj na nb. out h j na nb) ∙ ap₂ ◌⊕◌ (on_a h) (on_b h) ∙ ⊕_self (y h);
        diagonals = λ d ld e.
            along_two L K d a b l lb (λ h j lh lj na nb. out h j na nb)
            ∙ ⊕_of_eq (strip_sum L (λ h. K h a) a d) (strip_sum L (λ h. K h b) b d)
            (strip_sum_ext L (λ h. K h a) y a d (λ h lh. on_a h)
            ∙ m.each d ld (pair_kept a b (L.home d) e).0 (pair_kept a b (L.home d) e).1
            ∙ strip_sum_ext L y (λ h. K h b) b d (λ h lh. sym (on_b h)));
        row = i;
        strip = a;
        row_below = li;
        strip_below = omega arith;
        some = λ e. ne (sym (on_a i) ∙ e);
      })
    where
      K : ℕ → ℕ → ℕ
      K h j = only (pair a b j) (y h)

      out : (h j : ℕ) → j ≢ a → j ≢ b → K h j ≡ 0
      out h j na nb = ap (λ (t : Bool). only t (y h)) (pair_no a b j na nb)

      on_a : (h : ℕ) → K h a ≡ y h
      on_a h = ap (λ (t : Bool). only t (y h)) (pair_left a b)

      on_b : (h : ℕ) → K h b ≡ y h
      on_b h = ap (λ (t : Bool). only t (y h)) (pair_right a b)

-- ---- a data strip and strip n

-- y in strip a alone: every live diagonal has nothing on it
pub record Cancelled (L : Layout) (a : ℕ) (y : ℕ → ℕ) : Type 0 where
  pub each : (d : ℕ) → d < L.n → L.home d ≢ a → strip_sum L y a d ≡ 0

module _ (L : Layout) (F : Fair L) (a : ℕ) (la : a < L.n) where
  one_zero : ((y : ℕ → ℕ) → Cancelled L a y → (i : ℕ) → i < L.r → y i ≡ 0)
      → (f : ℕ → ℕ) → Sound L f → Agree (code L) (pair a L.n) f zeros → Same (code L) f zeros
  one_zero key f s z = data_zero L F (pair a L.n) f s z all
    where
      x : ℕ → ℕ → ℕ
      x i j = f (X L i j)

      out : (i j : ℕ) → i < L.r → j < L.n → j ≢ a → x i j ≡ 0
      out i j li lj na = kept_zero L F (pair a L.n) f s z i j li lj (pair_no a L.n j na (omega arith))

      cancelled : Cancelled L a (λ i. x i a)
      cancelled =
          record {
            each = λ d ld na.
                sym (along_one L x d a la out)
                ∙ diagonal_zero L F (pair a L.n) f s z d ld (pair_no a L.n (L.home d) na (omega (arith, F.home_lt d ld)));
          }

      all : (i j : ℕ) → i < L.r → j < L.n → x i j ≡ 0
      all i j li lj = at (ℕ_discrete j a)
        where
          at : Dec (j ≡ a) → x i j ≡ 0
          at (yes e) = ap (x i) e ∙ key (λ h. x h a) cancelled i li
          at (no na) = out i j li lj na

  -- decided where only zeros cancel
  pub decided_one : ((y : ℕ → ℕ) → Cancelled L a y → (i : ℕ) → i < L.r → y i ≡ 0) → Decided (code L) (pair a L.n)
  decided_one key = decided_of_zeros (code L) (pair a L.n) (λ f bf z. one_zero key f (balanced_sound L F f bf) z)
