-- DEMAND 3, from judge's contract alone: within the limits the answer is 0 exactly when no two different sound stripes of e-byte elements
-- look alike with any two strips removed, and exactly when the published bound holds; and it is 5 with (a, b) exactly when (a, b) is the
-- first pair outside which two such stripes agree, and both are given. Assumes nothing.
use Rattle.std.specs.Prelude.{◌≡◌, refl, ◌↔◌, ℕ, ◌<◌, ◌≤◌, Ok, Err}
use Rattle.std.proofs.Common.{sym, ap, ◌∙◌, arith}
use Rattle.code.specs.Layout.{Layout, Fair, code, pair}
use Rattle.code.specs.Code.{Fails, Decided}
use Rattle.code.specs.Shift.{shift}
use Rattle.code.specs.Bound.{Before, FirstPair, Order, first, equal, second}
use Rattle.code.specs.Bound as bound
use Rattle.code.proofs.Exact.{exact, good?, good_decided, order}
use Rattle.code.specs.Lookalikes.{Lookalikes, lookalikes_of_fails, no_lookalikes_of_decided}
use Rattle.shape.specs.declared.refusal.Refusal.TheVariants.{Weak}
use Rattle.shape.specs.Refusal.{lower_of, upper_of, weak_of}
use Rattle.shape.specs.Limits.{Limits}
use Rattle.shape.specs.Judge.{Judged, judged_number, Judges}
use Rattle.shape.specs.JudgeLaws.{number_good, number_weak}
use Rattle.shape.specs.LimitsLaws.{limits_fair}

-- (a, b) is the first pair of strips outside which two different sound stripes of e-byte elements agree
pub record FirstLookalikes (L : Layout) (e a b : ℕ) : Type 0 where
  pub order : a < b
  pub within : b ≤ L.n
  pub alike : Lookalikes L e a b
  pub before : (c d : ℕ) → c < d → d ≤ L.n → Before c d a b → Lookalikes L e c d → ⊥

module _ (n r s e : ℕ) (l : Limits n r s e) (x : Judged) (j : Judges n r s e x) where
  fair : Fair (shift n r s)
  fair = limits_fair n r s _ l

  fails_alike : (a b : ℕ) → Fails (code (shift n r s)) (pair a b) → Lookalikes (shift n r s) e a b
  fails_alike a b f = lookalikes_of_fails (shift n r s) fair e a b l.e_low f

  decided_alike : (a b : ℕ) → Decided (code (shift n r s)) (pair a b) → Lookalikes (shift n r s) e a b → ⊥
  decided_alike a b d = no_lookalikes_of_decided (shift n r s) fair e a b d

  good_alike : bound.Good n r s → (a b : ℕ) → a < b → b ≤ n → Lookalikes (shift n r s) e a b → ⊥
  good_alike g a b la lb = decided_alike a b (good_decided n r s l.s_low l.s_high g a b la lb)

  -- the answer is 0 exactly when the published bound, as printed, holds
  pub bound_exactly : (judged_number x ≡ 0) ↔ bound.Good n r s
  bound_exactly = (λ z. to z (good? n r s), λ g. j.number ∙ number_good n r s e l g)
    where
      five : ◌≡◌ {A = ℕ} 5 0 → ⊥
      five z = omega arith

      to : judged_number x ≡ 0 → Dec (bound.Good n r s) → bound.Good n r s
      to z (yes g) = g
      to z (no f) = absurd (five (sym (number_weak n r s e l f) ∙ sym j.number ∙ z))

  -- it is 0 exactly when no two different sound stripes look alike with any two strips removed
  pub accepted_exactly : (judged_number x ≡ 0) ↔ ((a b : ℕ) → a < b → b ≤ n → Lookalikes (shift n r s) e a b → ⊥)
  accepted_exactly = (
    λ z. good_alike (bound_exactly.0 z),
    λ h. bound_exactly.1 ((exact n r s l.s_low l.s_high).1 (λ a b la lb f. h a b la lb (fails_alike a b f))),
  )

  -- it is 5 with (a, b) exactly when (a, b) is the first pair for which two such stripes exist
  pub weak_exactly : (a b : ℕ) → (x ≡ Err (Weak a b)) ↔ FirstLookalikes (shift n r s) e a b
  weak_exactly a b = (λ z. to (j.weak a b z), from)
    where
      to : FirstPair (shift n r s) a b → FirstLookalikes (shift n r s) e a b
      to p =
          record {
            order = p.order;
            within = p.within;
            alike = fails_alike a b p.fails;
            before = λ c d lc ld w. decided_alike c d (p.before c d lc ld w);
          }

      from : FirstLookalikes (shift n r s) e a b → x ≡ Err (Weak a b)
      from f = named x refl
        where
          five : judged_number x ≡ 5
          five = j.number ∙ number_weak n r s e l (λ g. good_alike g a b f.order f.within f.alike)

          same : (c d : ℕ) → FirstPair (shift n r s) c d → (c ≡ a) × (d ≡ b)
          same c d p = at (order c d a b)
            where
              at : Order c d a b → (c ≡ a) × (d ≡ b)
              at (first w) = absurd (f.before c d p.order p.within w (fails_alike c d p.fails))
              at (equal u v) = (u, v)
              at (second w) = absurd (decided_alike a b (p.before a b f.order f.within w) f.alike)

          named : (y : Judged) → x ≡ y → y ≡ Err (Weak a b)
          named (Ok h) z = absurd (zero (sym (ap judged_number z) ∙ five))
            where
              zero : ◌≡◌ {A = ℕ} 0 5 → ⊥
              zero q = omega arith
          named (Err y) z = pairs (same (lower_of y) (upper_of y) (j.weak (lower_of y) (upper_of y) (z ∙ ap Err is)))
            where
              is : y ≡ Weak (lower_of y) (upper_of y)
              is = weak_of y (sym (ap judged_number z) ∙ five)

              pairs : (lower_of y ≡ a) × (upper_of y ≡ b) → ◌≡◌ {A = Judged} (Err y) (Err (Weak a b))
              pairs q = cc is
