-- What contracts say of a shape. Assumes nothing.
-- layout_of h == the layout of the shape h    size_of h == the bytes of its stripe
use Rattle.std.specs.Prelude.{◌≡◌, ℕ}
use Rattle.code.specs.Layout.{Layout}
use Rattle.code.specs.Shift.{shift}
use Rattle.shape.specs.declared.shapes.Shape.{Shape}
use Rattle.shape.specs.Call.{bytes_of}

-- h is the shape of the four numbers
pub record ShapeOf (n r s e : ℕ) (h : Shape) : Type 0 where
  pub strips : h.n ≡ n
  pub rows : h.r ≡ r
  pub shift : h.s ≡ s
  pub element : h.e ≡ e

abbrev pub layout_of : Shape → Layout
layout_of h = shift h.n h.r h.s

abbrev pub size_of : Shape → ℕ
size_of h = bytes_of h.n h.r h.e
