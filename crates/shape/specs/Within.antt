-- What within answers. Assumes nothing.
-- limited_number x == the number of the answer x
use Rattle.std.specs.Prelude.{◌≡◌, ℕ, Result, Ok, Err}
use Rattle.shape.specs.declared.shapes.Shape.{Shape}
use Rattle.shape.specs.declared.refusal.Refusal.{Refusal}
use Rattle.shape.specs.Refusal.{number_of}
use Rattle.shape.specs.Limits.{limit_number}
use Rattle.shape.specs.Shape.{ShapeOf}

abbrev pub limited_number : Result Shape Refusal → ℕ
limited_number (Ok h) = 0
limited_number (Err x) = number_of x

-- the number is the first refusal's, and a shape is that of the four numbers
pub record Within (n r s e : ℕ) (x : Result Shape Refusal) : Type 0 where
  pub number : limited_number x ≡ limit_number n r s e 0
  pub shape : (h : Shape) → x ≡ Ok h → ShapeOf n r s e h
