-- CHANGE: a byte added to a data place, to the H of its row and to the U of its diagonal leaves every line's sum as it was, so a sound
-- stripe stays sound. Over any fair layout. Assumes nothing.
-- f p, g p == one byte of the element at place p, before and after    b == what is added
use Rattle.std.specs.Prelude.{ℕ, ◌+◌, ◌<◌, ◌≡◌, ◌≢◌, ◌⊎◌}
use Rattle.std.proofs.Common.{sym, ap, ap₂, ◌∙◌, subst, inl, inr, ⊎_elim, arith}
use Rattle.std.proofs.Math.Decide.{ℕ_discrete}
use Rattle.code.specs.Xor.{◌⊕◌, ⊕_self, ⊕_zero, ⊕_swap}
use Rattle.code.specs.Sum.{sum, sum_to}
use Rattle.code.specs.SumLaws.{sum_to_ext, sum_to_change}
use Rattle.code.specs.Code.{Balanced}
use Rattle.code.specs.Place.{same_row, same_strip}
use Rattle.code.specs.Layout.{Layout, Fair, height, X, H, U, row_line, diagonal_line, line, code}
use Rattle.code.specs.LayoutLaws.{row_sum, diagonal_sum, by_lines}
use Rattle.code.specs.Sound.{Sound}
use Rattle.code.specs.SoundLaws.{sound_balanced, balanced_sound}

-- g is f with b added at the places x, h and u
pub record Changed (x h u b : ℕ) (f g : ℕ → ℕ) : Type 0 where
  pub data_place : g x ≡ f x ⊕ b
  pub row_place : g h ≡ f h ⊕ b
  pub diagonal_place : g u ≡ f u ⊕ b
  pub rest : (p : ℕ) → p ≢ x → p ≢ h → p ≢ u → g p ≡ f p

-- the same change, of functions that are equal at every place
pub changed_same : (x h u b c : ℕ) (f f' g g' : ℕ → ℕ) → b ≡ c → ((p : ℕ) → f' p ≡ f p) → ((p : ℕ) → g' p ≡ g p) → Changed x h u b f g
    → Changed x h u c f' g'
changed_same x h u b c f f' g g' e ef eg y =
    record {
      data_place = eg x ∙ y.data_place ∙ ap₂ ◌⊕◌ (sym (ef x)) e;
      row_place = eg h ∙ y.row_place ∙ ap₂ ◌⊕◌ (sym (ef h)) e;
      diagonal_place = eg u ∙ y.diagonal_place ∙ ap₂ ◌⊕◌ (sym (ef u)) e;
      rest = λ p nx nh nu. eg p ∙ y.rest p nx nh nu ∙ sym (ef p);
    }

-- added twice is not added
twice : (a c b : ℕ) → (a ⊕ b) ⊕ (c ⊕ b) ≡ a ⊕ c
twice a c b = ⊕_swap a b c b ∙ ap (λ (x : ℕ). (a ⊕ c) ⊕ x) (⊕_self b) ∙ ⊕_zero (a ⊕ c)

module _ (L : Layout) (F : Fair L) (i j b : ℕ) (li : i < L.r) (lj : j < L.n) (f g : ℕ → ℕ)
    (c : Changed (X L i j) (H L i) (U L (L.diagonal i j)) b f g) where
  -- data of another row or strip
  other_data : (m q : ℕ) → m < L.r → q < L.n → (m ≢ i) ⊎ (q ≢ j) → g (X L m q) ≡ f (X L m q)
  other_data m q lm lq o =
      c.rest (X L m q)
      (λ e.
      ⊎_elim (λ (ne : m ≢ i). ne (same_row (height L) m q i j (omega arith) (omega arith) e))
      (λ (ne : q ≢ j). ne (same_strip (height L) m q i j (omega arith) (omega arith) e)) o)
      (λ e. omega (arith, same_strip (height L) m q i L.n (omega arith) (omega arith) e))
      (λ e. omega (arith, same_row (height L) m q L.r (L.home (L.diagonal i j)) (omega arith) (omega arith) e))

  -- the H of another row
  other_H : (m : ℕ) → m < L.r → m ≢ i → g (H L m) ≡ f (H L m)
  other_H m lm ne =
      c.rest (H L m)
      (λ e. omega (arith, same_strip (height L) m L.n i j (omega arith) (omega arith) e))
      (λ e. ne (same_row (height L) m L.n i L.n (omega arith) (omega arith) e))
      (λ e. omega (arith, same_row (height L) m L.n L.r (L.home (L.diagonal i j)) (omega arith) (omega arith) e))

  -- the U of another diagonal
  other_U : (d : ℕ) → d < L.n → d ≢ L.diagonal i j → g (U L d) ≡ f (U L d)
  other_U d ld ne =
      c.rest (U L d)
      (λ e. omega (arith, same_row (height L) L.r (L.home d) i j (omega arith) (omega arith) e))
      (λ e. omega (arith, same_row (height L) L.r (L.home d) i L.n (omega arith) (omega arith) e))
      (λ e. ne (one_home (same_strip (height L) L.r (L.home d) L.r (L.home (L.diagonal i j)) (omega arith) (omega arith) e)))
    where
      one_home : L.home d ≡ L.home (L.diagonal i j) → d ≡ L.diagonal i j
      one_home e = sym (F.owner_home d ld) ∙ ap L.owner e ∙ F.owner_home (L.diagonal i j) (F.diagonal_lt i j li lj)

  pub changed_row : (m : ℕ) → m < L.r → sum g (row_line L m) ≡ sum f (row_line L m)
  changed_row m lm = row_sum L g m ∙ go (ℕ_discrete m i) ∙ sym (row_sum L f m)
    where
      go : Dec (m ≡ i) → sum_to L.n (λ q. g (X L m q)) ⊕ g (H L m) ≡ sum_to L.n (λ q. f (X L m q)) ⊕ f (H L m)
      go (yes e) =
          subst (λ (z : ℕ). sum_to L.n (λ q. g (X L z q)) ⊕ g (H L z) ≡ sum_to L.n (λ q. f (X L z q)) ⊕ f (H L z)) (sym e)
          (ap₂ ◌⊕◌
          (sum_to_change L.n (λ q. f (X L i q)) (λ q. g (X L i q)) b j lj c.data_place (λ q lq ne. other_data i q li lq (inr ne)))
          c.row_place
          ∙ twice (sum_to L.n (λ q. f (X L i q))) (f (H L i)) b)
      go (no ne) =
          ap₂ ◌⊕◌ (sum_to_ext L.n (λ q. g (X L m q)) (λ q. f (X L m q)) (λ q lq. other_data m q lm lq (inl ne))) (other_H m lm ne)

  pub changed_diagonal : (d : ℕ) → d < L.n → sum g (diagonal_line L d) ≡ sum f (diagonal_line L d)
  changed_diagonal d ld = diagonal_sum L g d ∙ go (ℕ_discrete d (L.diagonal i j)) ∙ sym (diagonal_sum L f d)
    where
      -- where the diagonal is another, it meets row i at another strip
      apart : d ≢ L.diagonal i j → (m : ℕ) → Dec (m ≡ i) → (m ≢ i) ⊎ (L.meets m d ≢ j)
      apart ne m (yes e) =
          inr (λ w. ne (sym (F.diagonal_meets i d li ld) ∙ ap (L.diagonal i) (subst (λ (z : ℕ). L.meets z d ≡ j) e w)))
      apart ne m (no o) = inl o

      go : Dec (d ≡ L.diagonal i j)
          → sum_to L.r (λ m. g (X L m (L.meets m d))) ⊕ g (U L d) ≡ sum_to L.r (λ m. f (X L m (L.meets m d))) ⊕ f (U L d)
      go (yes e) =
          let at_j : L.meets i d ≡ j = ap (L.meets i) e ∙ F.meets_diagonal i j li lj in
          ap₂ ◌⊕◌
          (sum_to_change L.r (λ m. f (X L m (L.meets m d))) (λ m. g (X L m (L.meets m d))) b i li
          (subst (λ (z : ℕ). g (X L i z) ≡ f (X L i z) ⊕ b) (sym at_j) c.data_place)
          (λ m lm ne. other_data m (L.meets m d) lm (F.meets_lt m d lm ld) (inl ne)))
          (subst (λ (z : ℕ). g (U L z) ≡ f (U L z) ⊕ b) (sym e) c.diagonal_place)
          ∙ twice (sum_to L.r (λ m. f (X L m (L.meets m d)))) (f (U L d)) b
      go (no ne) =
          ap₂ ◌⊕◌
          (sum_to_ext L.r (λ m. g (X L m (L.meets m d))) (λ m. f (X L m (L.meets m d)))
          (λ m lm. other_data m (L.meets m d) lm (F.meets_lt m d lm ld) (apart ne m (ℕ_discrete m i))))
          (other_U d ld ne)

  -- every line's sum stays
  pub changed_line : (t : ℕ) → t < L.r + L.n → sum g (line L t) ≡ sum f (line L t)
  changed_line = by_lines L (λ t ps. sum g ps ≡ sum f ps) changed_row changed_diagonal

  pub changed_balanced : Balanced (code L) f → Balanced (code L) g
  changed_balanced s = record { zero = λ t lt. changed_line t lt ∙ s.zero t lt }

  pub changed_sound : Sound L f → Sound L g
  changed_sound s = balanced_sound L F g (changed_balanced (sound_balanced L F f s))
