-- Lines 1 to 6 of a call: a buffer of len bytes opened under four numbers. Assumes nothing.
use Rattle.std.specs.Prelude.{◌≡◌, ℕ, Ok, Err}
use Rattle.code.specs.Bound.{Good}
use Rattle.shape.specs.declared.shapes.Shape.{Shape}
use Rattle.shape.specs.declared.refusal.Refusal.{Refusal}
use Rattle.shape.specs.Limits.{Limits}
use Rattle.shape.specs.Shape.{ShapeOf}
use Rattle.shape.specs.Call.{bytes_of, call_number, Answered}
use Rattle.shape.specs.Judge.{Judged}

-- the shape is that of the four numbers, within the limits and the bound, and len is its size
pub record Opened (n r s e len : ℕ) (h : Shape) : Type 0 where
  pub shape : ShapeOf n r s e h
  pub limits : Limits n r s e
  pub good : Good n r s
  pub sized : len ≡ bytes_of n r e

-- a good shape is opened and comes with its size, and a refusal is the call's, whatever comes after line 6
pub record Opens (n r s e len : ℕ) (x : Judged) : Type 0 where
  pub opened : (h : Shape) (b : ℕ) → x ≡ Ok (h, b) → Opened n r s e len h
  pub size : (h : Shape) (b : ℕ) → x ≡ Ok (h, b) → b ≡ len
  pub refused : (y : Refusal) → x ≡ Err y → (last : ℕ) → Answered n r s (call_number n r s e len last) (Err y)
