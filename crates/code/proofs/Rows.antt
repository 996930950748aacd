-- The rows of 01's bound table and its cases A and E hold: a test that is computed at every entry, and one law that turns the test into the
-- entry's rule. Assumes nothing.
use Rattle.std.specs.Prelude.{ℕ, ◌+◌, ◌-◌, ◌*◌, ◌<◌, ◌≤◌, ◌≡◌, refl, Bool, true, false, List, ltb, length, get_or}
use Rattle.std.proofs.Common.{arith, ltb-true, ltb-false}
use Rattle.code.specs.Xor.{◌⊕◌}
use Rattle.code.specs.Sum.{sum_to, pick}
use Rattle.code.specs.Test.{Test, equal?, so?, both?, below?, Each, each?}
use Rattle.code.specs.Place.{at}
use Rattle.code.specs.Layout.{X}
use Rattle.code.specs.Sound.{along}
use Rattle.code.specs.SoundTest.{sound_stripe?}
use Rattle.code.specs.Shift.{diagonal, shift}
use Rattle.code.specs.Bound.{searched, pr, q, Good, wide, narrow}
use Rattle.code.specs.Rows.{Entry, greatest, diagonals, stripe, Greatest, Diagonals, Encodes, Rule, rows}

-- the greatest r is n - s where s is above q, else n - q - s
greatest? : (n s g : ℕ) → Test (Greatest n s g)
greatest? n s g =
    so? (equal? (pick (ltb (q n) s) (n - s) (n - q n - s)) g) (λ e. record { exactly = λ r lr. (forth r (ltb (q n) s) refl e, back r lr (ltb (q n) s) refl e) })
  where
    forth : (r : ℕ) → (b : Bool) → ltb (q n) s ≡ b → pick b (n - s) (n - q n - s) ≡ g → Good n r s → r ≤ g
    forth r true b e (wide l h) = omega arith
    forth r true b e (narrow l h) = absurd (omega (arith, ltb-true (q n) s b))
    forth r false b e (wide l h) = absurd (omega (arith, ltb-false (q n) s b))
    forth r false b e (narrow l h) = omega arith

    back : (r : ℕ) → 0 < r → (b : Bool) → ltb (q n) s ≡ b → pick b (n - s) (n - q n - s) ≡ g → r ≤ g → Good n r s
    back r lr true b e h = wide (ltb-true (q n) s b) (omega arith)
    back r lr false b e h = narrow (ltb-false (q n) s b) (omega arith)

diagonals? : (n r s i : ℕ) (ds : List ℕ) → Test (Diagonals n r s i ds)
diagonals? n r s i ds =
    so? (both? (equal? (length ds) n) (below? n (λ j. equal? (diagonal n r s i j) (get_or ds j 0)))) (λ h. record { size = h.0; each = h.1 })

encodes? : (n r s e : ℕ) (xs bs : List ℕ) → Test (Encodes n r s e xs bs)
encodes? n r s e xs bs =
    so? (both? (below? r (λ i. below? n (λ j. below? e (λ k. equal? (at bs e k (X (shift n r s) i j)) (get_or xs ((i * n + j) * e + k) 0))))) (sound_stripe? n r s e bs))
    (λ h. record { elements = λ i j k li lj lk. h.0 i li j lj k lk; sound = h.1 })

test : (x : Entry) → Test (Rule x)
test (greatest n s g) = greatest? n s g
test (diagonals n r s i ds) = diagonals? n r s i ds
test (stripe n r s e xs bs) = encodes? n r s e xs bs

-- every entry holds
pub rows_hold : Each Rule rows
unfolding test greatest? diagonals? encodes? sum_to along diagonal q pr searched ◌⊕◌
rows_hold = (each? test rows).gives tt
