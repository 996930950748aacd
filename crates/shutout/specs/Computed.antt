-- Tests of what the laws of rebuild ask of two stripes, for stripes that are named byte by byte. Assumes nothing.
-- Test P == a test, and a proof of P where it passes (Test of code)
use Rattle.std.specs.Prelude.{◌≡◌, Bool, true, false, List, ℕ, ◌<◌, length}
use Rattle.std.proofs.Common.{sym}
use Rattle.code.specs.SumLaws.{clash}
use Rattle.code.specs.Test.{Test, equal?, so?, both?, below?}
use Rattle.code.specs.Place.{strip_of, at}
use Rattle.code.specs.Layout.{Layout, height, places}
use Rattle.rebuild.specs.Rebuild.{Kept}

-- two numbers are equal, where the test t has the value u
unfoldable pub where? : (t u : Bool) (a b : ℕ) → Test (t ≡ u → a ≡ b)
where? true true a b = so? (equal? a b) (λ e q. e)
where? true false a b = record { passes = true; gives = λ h q. clash (sym q) }
where? false true a b = record { passes = true; gives = λ h q. clash q }
where? false false a b = so? (equal? a b) (λ e q. e)

module _ (L : Layout) (e : ℕ) (lost : ℕ → Bool) where
  -- every survivor of before is in after
  abbrev pub kept? : (before after : List ℕ) → Test (Kept L e lost before after)
  kept? before after =
      so? (both? (equal? (length after) (length before))
      (below? e (λ k. below? (places L) (λ p. where? (lost (strip_of (height L) p)) false (at before e k p) (at after e k p)))))
      (λ h. record { size = h.0; survivors = λ k lk. record { survivors = h.1 k lk } })

  -- every byte of the lost strips is zero
  abbrev pub zero? : (s : List ℕ) → Test ((p k : ℕ) → p < places L → k < e → lost (strip_of (height L) p) ≡ true → at s e k p ≡ 0)
  zero? s =
      so? (below? (places L) (λ p. below? e (λ k. where? (lost (strip_of (height L) p)) true (at s e k p) 0)))
      (λ h p k lp lk. h p lp k lk)
