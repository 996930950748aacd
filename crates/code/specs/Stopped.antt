-- A walk that has stopped decides the pair: what it left unknown meets every live line in none or two, so the pair fails; and where it left
-- nothing the survivors decide the stripe. For layouts in which no strip has a diagonal twice. Assumes nothing.
use Rattle.std.specs.Prelude.{ℕ, zero, suc, ◌<◌, ◌≡◌, ◌≢◌, ◌⊎◌, Bool, not}
use Rattle.std.proofs.Math.Path.{refl, ap, subst}
use Rattle.std.proofs.Common.{sym, ◌∙◌, inl, inr, arith}
use Rattle.std.proofs.Math.Bool.{true, false}
use Rattle.std.proofs.Math.Decide.{ℕ_discrete}
use Rattle.code.specs.Sum.{pick}
use Rattle.code.specs.SumLaws.{clash}
use Rattle.code.specs.Layout.{Layout, Fair, Latin, code, pair}
use Rattle.code.specs.LayoutLaws.{pair_yes}
use Rattle.code.specs.Live.{row, diagonal, Known, survives, built, Finished}
use Rattle.code.specs.Even.{NoneOrTwo, none_or_two}
use Rattle.code.specs.Stuck.{EvenSet, stuck_places}
use Rattle.code.specs.Steps.{Written, BuiltAt}
use Rattle.code.specs.StepsLaws.{walk_decided}
use Rattle.code.specs.Walk.{Walk, Left}
use Rattle.code.specs.Code.{Fails, Decided}

-- is row i of strip j the target of one of the first k steps?
pub built? : (w : ℕ → Written) (k i j : ℕ) → Dec (BuiltAt w k i j)
built? w zero i j = no (λ x. none x.early)
  where
    none : {t : ℕ} → t < 0 → ⊥
    none l = omega arith
built? w (suc k) i j = go (built? w k i j) (ℕ_discrete (w k).row i) (ℕ_discrete (w k).strip j)
  where
    last : (BuiltAt w k i j → ⊥) → ((w k).row ≢ i) ⊎ ((w k).strip ≢ j) → (x : BuiltAt w (suc k) i j) → Dec (x.step ≡ k) → ⊥
    last f (inl ne) x (yes e) = ne (ap (λ (u : ℕ). (w u).row) (sym e) ∙ x.its_row)
    last f (inr ne) x (yes e) = ne (ap (λ (u : ℕ). (w u).strip) (sym e) ∙ x.its_strip)
    last f d x (no ne) = f (record { step = x.step; early = omega (arith, x.early); its_row = x.its_row; its_strip = x.its_strip })

    go : Dec (BuiltAt w k i j) → Dec ((w k).row ≡ i) → Dec ((w k).strip ≡ j) → Dec (BuiltAt w (suc k) i j)
    go (yes x) p q = yes (record { step = x.step; early = omega (arith, x.early); its_row = x.its_row; its_strip = x.its_strip })
    go (no f) (yes p) (yes q) = yes (record { step = k; early = omega arith; its_row = p; its_strip = q })
    go (no f) (yes p) (no q) = no (λ x. last f (inr q) x (ℕ_discrete x.step k))
    go (no f) (no p) q = no (λ x. last f (inl p) x (ℕ_discrete x.step k))

not_yes : {A : Type 0} → Dec A → Bool
not_yes (yes x) = false
not_yes (no f) = true

module _ (lost : ℕ → Bool) (B : ℕ → ℕ → Type 0) (dec : (i j : ℕ) → Dec (B i j)) where
  -- the element is unknown: lost and not built
  pub unknown : ℕ → ℕ → Bool
  unknown i j = pick (lost j) (not_yes (dec i j)) false

  unknown_lost : (i j : ℕ) → unknown i j ≡ true → lost j ≡ true
  unfolding unknown
  unknown_lost i j e = go (lost j) refl e
    where
      go : (t : Bool) → lost j ≡ t → pick t (not_yes (dec i j)) false ≡ true → lost j ≡ true
      go true q z = q
      go false q z = clash z

  unknown_new : (i j : ℕ) → unknown i j ≡ true → B i j → ⊥
  unfolding unknown not_yes
  unknown_new i j e x = go (lost j) (dec i j) e
    where
      go : (t : Bool) (d : Dec (B i j)) → pick t (not_yes d) false ≡ true → ⊥
      go true (yes y) z = clash z
      go true (no f) z = f x
      go false d z = clash z

  pub unknown_yes : (i j : ℕ) → lost j ≡ true → (B i j → ⊥) → unknown i j ≡ true
  unfolding unknown not_yes
  unknown_yes i j lo new = ap (λ (t : Bool). pick t (not_yes (dec i j)) false) lo ∙ go (dec i j)
    where
      go : (d : Dec (B i j)) → not_yes d ≡ true
      go (yes x) = absurd (new x)
      go (no f) = refl

  known_else : (i j : ℕ) → unknown i j ≡ false → Known lost B i j
  unfolding unknown not_yes
  known_else i j e = go (lost j) refl (dec i j) e
    where
      go : (t : Bool) → lost j ≡ t → (d : Dec (B i j)) → pick t (not_yes d) false ≡ false → Known lost B i j
      go false q d z = survives q
      go true q (yes x) z = built x
      go true q (no f) z = clash (sym z)

-- of three strips of a pair two are equal
two_equal : (a b p q i : ℕ) → pair a b p ≡ true → pair a b q ≡ true → pair a b i ≡ true → (p ≡ q) ⊎ ((i ≡ p) ⊎ (i ≡ q))
two_equal a b p q i ep eq ei = go (pair_yes a b p ep) (pair_yes a b q eq) (pair_yes a b i ei)
  where
    go : (p ≡ a) ⊎ (p ≡ b) → (q ≡ a) ⊎ (q ≡ b) → (i ≡ a) ⊎ (i ≡ b) → (p ≡ q) ⊎ ((i ≡ p) ⊎ (i ≡ q))
    go (inl x) (inl y) z = inl (x ∙ sym y)
    go (inr x) (inr y) z = inl (x ∙ sym y)
    go (inl x) (inr y) (inl z) = inr (inl (z ∙ sym x))
    go (inl x) (inr y) (inr z) = inr (inr (z ∙ sym y))
    go (inr x) (inl y) (inl z) = inr (inr (z ∙ sym y))
    go (inr x) (inl y) (inr z) = inr (inl (z ∙ sym x))

module _ (L : Layout) (F : Fair L) (latin : Latin L) (a b : ℕ) (B : ℕ → ℕ → Type 0) (dec : (i j : ℕ) → Dec (B i j)) (stopped : Finished L (pair a b) B) where
  K : ℕ → ℕ → Bool
  K = unknown (pair a b) B dec

  row_even : pair a b L.n ≡ false → (i : ℕ) → i < L.r → NoneOrTwo L.n (K i)
  unfolding K
  row_even live i li = none_or_two L.n (K i) alone three
    where
      alone : (p : ℕ) → p < L.n → K i p ≡ true → ((j : ℕ) → j < L.n → j ≢ p → K i j ≡ false) → ⊥
      alone p lp ep others =
          stopped.none (row i) i p
          (record {
            live = live;
            row_below = li;
            strip_below = lp;
            on = refl;
            is_lost = unknown_lost (pair a b) B dec i p ep;
            new = unknown_new (pair a b) B dec i p ep;
            rest = λ h l lh ll o d. go h l ll o d;
          })
        where
          go : (h l : ℕ) → l < L.n → h ≡ i → (h ≢ i) ⊎ (l ≢ p) → Known (pair a b) B h l
          go h l ll o (inl ne) = absurd (ne o)
          go h l ll o (inr ne) = subst (λ (x : ℕ). Known (pair a b) B x l) (sym o) (known_else (pair a b) B dec i l (others l ll ne))

      three : (p q j : ℕ) → p < L.n → q < L.n → j < L.n → p ≢ q → j ≢ p → j ≢ q → K i p ≡ true → K i q ≡ true → K i j ≡ true → ⊥
      three p q j lp lq lj pq jp jq ep eq ej =
          go (two_equal a b p q j (unknown_lost (pair a b) B dec i p ep) (unknown_lost (pair a b) B dec i q eq) (unknown_lost (pair a b) B dec i j ej))
        where
          go : (p ≡ q) ⊎ ((j ≡ p) ⊎ (j ≡ q)) → ⊥
          go (inl e) = pq e
          go (inr (inl e)) = jp e
          go (inr (inr e)) = jq e

  diagonal_even : (d : ℕ) → d < L.n → pair a b (L.home d) ≡ false → NoneOrTwo L.r (λ i. K i (L.meets i d))
  unfolding K
  diagonal_even d ld live = none_or_two L.r (λ i. K i (L.meets i d)) alone three
    where
      lost_at : (i : ℕ) → K i (L.meets i d) ≡ true → pair a b (L.meets i d) ≡ true
      lost_at i e = unknown_lost (pair a b) B dec i (L.meets i d) e

      alone : (p : ℕ) → p < L.r → K p (L.meets p d) ≡ true → ((i : ℕ) → i < L.r → i ≢ p → K i (L.meets i d) ≡ false) → ⊥
      alone p lp ep others =
          stopped.none (diagonal d) p (L.meets p d)
          (record {
            live = live;
            row_below = lp;
            strip_below = F.meets_lt p d lp ld;
            on = F.diagonal_meets p d lp ld;
            is_lost = lost_at p ep;
            new = unknown_new (pair a b) B dec p (L.meets p d) ep;
            rest = λ h l lh ll o z. go h l lh (sym (F.meets_diagonal h l lh ll) ∙ ap (L.meets h) o) z (ℕ_discrete h p);
          })
        where
          go : (h l : ℕ) → h < L.r → l ≡ L.meets h d → (h ≢ p) ⊎ (l ≢ L.meets p d) → Dec (h ≡ p) → Known (pair a b) B h l
          go h l lh o z (no ne) = subst (Known (pair a b) B h) (sym o) (known_else (pair a b) B dec h (L.meets h d) (others h lh ne))
          go h l lh o (inl ne) (yes e) = absurd (ne e)
          go h l lh o (inr ne) (yes e) = absurd (ne (o ∙ ap (λ (x : ℕ). L.meets x d) e))

      -- no strip has the diagonal twice
      same : (p q : ℕ) → p < L.r → q < L.r → L.meets p d ≡ L.meets q d → p ≡ q
      same p q lp lq e =
          latin.down p q (L.meets p d) lp lq (F.meets_lt p d lp ld)
          (F.diagonal_meets p d lp ld ∙ sym (F.diagonal_meets q d lq ld) ∙ ap (L.diagonal q) (sym e))

      three : (p q i : ℕ) → p < L.r → q < L.r → i < L.r → p ≢ q → i ≢ p → i ≢ q → K p (L.meets p d) ≡ true → K q (L.meets q d) ≡ true
          → K i (L.meets i d) ≡ true → ⊥
      three p q i lp lq li pq ip iq ep eq ei = go (two_equal a b (L.meets p d) (L.meets q d) (L.meets i d) (lost_at p ep) (lost_at q eq) (lost_at i ei))
        where
          go : (L.meets p d ≡ L.meets q d) ⊎ ((L.meets i d ≡ L.meets p d) ⊎ (L.meets i d ≡ L.meets q d)) → ⊥
          go (inl e) = pq (same p q lp lq e)
          go (inr (inl e)) = ip (same i p li lp e)
          go (inr (inr e)) = iq (same i q li lq e)

  -- what a stopped walk leaves is such a set
  stopped_even : EvenSet L (pair a b) (unknown (pair a b) B dec)
  unfolding K
  stopped_even = record { inside = unknown_lost (pair a b) B dec; rows = row_even; diagonals = diagonal_even }

-- true exactly where the pair of strips fails, and false exactly where the survivors decide the stripe
pub record Exact (L : Layout) (a b : ℕ) (t : Bool) : Type 0 where
  pub fails : t ≡ true → Fails (code L) (pair a b)
  pub decided : t ≡ false → Decided (code L) (pair a b)

-- a walk left something exactly where the pair fails
pub walk_exact : (L : Layout) → Fair L → Latin L → (a b : ℕ) (w : ℕ → Written) (k : ℕ) (whole : Bool) → Walk L (pair a b) w k whole → Exact L a b (not whole)
walk_exact L F latin a b w k true x = record { fails = λ e. clash e; decided = λ e. walk_decided L F (pair a b) w k x }
walk_exact L F latin a b w k false x = record { fails = λ e. left (x.some refl); decided = λ e. clash (sym e) }
  where
    left : Left L (pair a b) w k → Fails (code L) (pair a b)
    left y =
        stuck_places L F (pair a b) (unknown (pair a b) (BuiltAt w k) (built? w k)) (stopped_even L F latin a b (BuiltAt w k) (built? w k) x.finished)
        y.row y.strip y.row_below y.strip_below (unknown_yes (pair a b) (BuiltAt w k) (built? w k) y.row y.strip y.is_lost y.unknown)
