-- What judge answers: 01's number and values for each case. Assumes nothing.
-- shape_number n r s e == the first of the numbers 1 to 5 whose line holds, else 0    judged_number x == the number of the answer x
use Rattle.std.specs.Prelude.{◌≡◌, ℕ, ◌+◌, ◌*◌, Result, Ok, Err}
use Rattle.code.specs.Sum.{pick}
use Rattle.code.specs.Shift.{shift}
use Rattle.code.specs.Bound.{FirstPair}
use Rattle.shape.specs.declared.shapes.Shape.{Shape}
use Rattle.shape.specs.declared.refusal.Refusal.{Refusal}
use Rattle.shape.specs.declared.refusal.Refusal.TheVariants.{Weak}
use Rattle.shape.specs.Refusal.{number_of}
use Rattle.shape.specs.Limits.{limit_number}
use Rattle.shape.specs.Shape.{ShapeOf}
use Rattle.shape.specs.GoodTest.{good_test}

-- lines 1 to 4 are the limits; line 5: a weak shape, one above the published bound
abbrev pub shape_number : ℕ → ℕ → ℕ → ℕ → ℕ
shape_number n r s e = limit_number n r s e (pick (good_test n r s) 0 5)

-- a shape with the bytes of its stripe, or the refusal
abbrev pub Judged : Type 0
Judged = Result (Shape × ℕ) Refusal

abbrev pub judged_number : Judged → ℕ
judged_number (Ok h) = 0
judged_number (Err x) = number_of x

-- the number is the first whose line holds; a good shape is that of the four numbers, with the bytes of its stripe; a weak one comes with
-- its first failing pair
pub record Judges (n r s e : ℕ) (x : Judged) : Type 0 where
  pub number : judged_number x ≡ shape_number n r s e
  pub good : (h : Shape) (b : ℕ) → x ≡ Ok (h, b) → ShapeOf n r s e h × (b ≡ e * (n * (r + 1) + r))
  pub weak : (a b : ℕ) → x ≡ Err (Weak a b) → FirstPair (shift n r s) a b
