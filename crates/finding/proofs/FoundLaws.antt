-- What the counts find: a wrong rows, the first of them i, and b wrong diagonals, the first of them d. Assumes nothing.
use Rattle.std.specs.Prelude.{◌≡◌, Bool, ◌⊎◌, List, ℕ, ◌≤◌, eqb}
use Rattle.std.proofs.Math.Path.{refl}
use Rattle.std.proofs.Common.{◌∙◌, inl, inr, arith, eq-eqb, ne_eqb, eqb-true}
use Rattle.std.proofs.Math.Bool.{true, false}
use Rattle.code.specs.Sum.{pick}
use Rattle.code.specs.Layout.{Layout}
use Rattle.finding.specs.declared.Finding.{Finding}
use Rattle.finding.specs.declared.Finding.TheVariants as finding
use Rattle.finding.specs.Found.{wrong_row, wrong_diagonal, found_of, found, Finds}
use Rattle.finding.specs.Tally.{Tallied}

-- ---- the finding of each pair of counts

module _ (L : Layout) (a i b d : ℕ) where
  pub found_sound : a ≡ 0 → b ≡ 0 → finding.Sound ≡ found_of L a i b d
  unfolding found_of
  found_sound x y = simp (eq-eqb a 0 x, eq-eqb b 0 y)

  pub found_U : a ≡ 0 → b ≡ 1 → finding.U d ≡ found_of L a i b d
  unfolding found_of
  found_U x y = simp (eq-eqb a 0 x, ne_eqb b 0 (λ z. omega arith), eq-eqb b 1 y)

  pub found_H : a ≡ 1 → b ≡ 0 → finding.H i ≡ found_of L a i b d
  unfolding found_of
  found_H x y = simp (ne_eqb a 0 (λ z. omega arith), eq-eqb a 1 x, eq-eqb b 0 y)

  pub found_element : a ≡ 1 → b ≡ 1 → finding.Element i (L.meets i d) ≡ found_of L a i b d
  unfolding found_of
  found_element x y = simp (ne_eqb a 0 (λ z. omega arith), eq-eqb a 1 x, ne_eqb b 0 (λ z. omega arith), eq-eqb b 1 y)

  pub found_several : (2 ≤ a) ⊎ (2 ≤ b) → finding.Several ≡ found_of L a i b d
  unfolding found_of
  found_several (inl x) = simp (ne_eqb a 0 (λ z. omega arith), ne_eqb a 1 (λ z. omega arith))
  found_several (inr y) = simp (ne_eqb b 0 (λ z. omega arith), ne_eqb b 1 (λ z. omega arith)) (go (eqb a 0) (eqb a 1))
    where
      go : (u v : Bool) → finding.Several ≡ pick u finding.Several (pick v finding.Several finding.Several)
      go true v = refl
      go false true = refl
      go false false = refl

-- the tallies of a stripe's rows and diagonals find what its wrong lines find
pub found_tallied : (L : Layout) (e : ℕ) (s : List ℕ) (a i b d : ℕ) → Tallied L.r (wrong_row L e s) a i → Tallied L.n (wrong_diagonal L e s) b d
    → found_of L a i b d ≡ found L e s
found_tallied L e s a i b d p q = cc (p.many, p.lowest, q.many, q.lowest)

-- so counts from tallies, with the finding of these, are the stripe's
pub finds_tallied : (L : Layout) (e : ℕ) (s : List ℕ) (a i b d : ℕ) → Tallied L.r (wrong_row L e s) a i → Tallied L.n (wrong_diagonal L e s) b d
    → (f : Finding) → f ≡ found_of L a i b d → Finds L e s (record { rows = a; diagonals = b; finding = f })
finds_tallied L e s a i b d p q f w = record { rows_are = p.many; diagonals_are = q.many; finding_is = w ∙ found_tallied L e s a i b d p q }

-- ---- back from the finding

absurd_equal : {A : Type 0} → ◌≡◌ {A = ℕ} 0 1 → A
absurd_equal z = absurd (omega arith)

-- only (0, 0) is found sound
pub sound_counts : (L : Layout) (a i b d : ℕ) → found_of L a i b d ≡ finding.Sound → (a ≡ 0) × (b ≡ 0)
unfolding found_of
sound_counts L a i b d q = let z = go (L.meets i d) (eqb a 0) (eqb a 1) (eqb b 0) (eqb b 1) q in (eqb-true a 0 z.0, eqb-true b 0 z.1)
  where
    go : (j : ℕ) (a0 a1 b0 b1 : Bool)
        → pick a0 (pick b0 finding.Sound (pick b1 (finding.U d) finding.Several))
        (pick a1 (pick b0 (finding.H i) (pick b1 (finding.Element i j) finding.Several)) finding.Several)
        ≡ finding.Sound
        → (a0 ≡ true) × (b0 ≡ true)
    go j true a1 true b1 q = (refl, refl)
    go j true a1 false true q = absurd_equal (cc)
    go j true a1 false false q = absurd_equal (cc)
    go j false true true b1 q = absurd_equal (cc)
    go j false true false true q = absurd_equal (cc)
    go j false true false false q = absurd_equal (cc)
    go j false false b0 b1 q = absurd_equal (cc)
