-- The published bound as a test. Assumes nothing.
-- good_test n r s == the test of Good n r s
use Rattle.std.specs.Prelude.{ℕ, ◌+◌, ◌-◌, ◌≡◌, refl, Bool, true, false, ltb, leb}
use Rattle.std.proofs.Common.{ltb-true, ltb-false, leb-true, lt-ltb, le-ltb, le-leb}
use Rattle.code.specs.Sum.{pick}
use Rattle.code.specs.Bound.{q, Good, wide, narrow}

abbrev pub good_test : ℕ → ℕ → ℕ → Bool
good_test n r s = pick (ltb (q n) s) (leb r (n - s)) (leb (r + q n + s) n)

module _ (n r s : ℕ) where
  pub test_good : good_test n r s ≡ true → Good n r s
  test_good = go (ltb (q n) s) refl
    where
      go : (t : Bool) → ltb (q n) s ≡ t → pick t (leb r (n - s)) (leb (r + q n + s) n) ≡ true → Good n r s
      go true e h = wide (ltb-true (q n) s e) (leb-true r (n - s) h)
      go false e h = narrow (ltb-false (q n) s e) (leb-true (r + q n + s) n h)

  pub good_tested : Good n r s → good_test n r s ≡ true
  good_tested (wide a b) = simp (lt-ltb (q n) s a, le-leb r (n - s) b)
  good_tested (narrow a b) = simp (le-ltb (q n) s a, le-leb (r + q n + s) n b)

  pub weak_tested : (Good n r s → ⊥) → good_test n r s ≡ false
  weak_tested f = go (good_test n r s) refl
    where
      go : (t : Bool) → good_test n r s ≡ t → t ≡ false
      go true e = absurd (f (test_good e))
      go false e = refl
