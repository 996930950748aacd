-- What always holds of the room: the shape that is set is good, and its stripe is sound. Assumes nothing.
use Rattle.std.specs.Prelude.{◌≡◌, List, ℕ, ◌≤◌, ◌<◌, length, take, Option, Some, None}
use Rattle.std.specs.Coded.{le_prop}
use Rattle.std.proofs.Common.{ap₂, arith}
use Rattle.std.proofs.Props.{props}
use Rattle.code.specs.Bound.{Good, wide, narrow}
use Rattle.code.specs.Place.{at}
use Rattle.code.specs.Sound.{Sound}
use Rattle.shape.specs.declared.shapes.Shape.{Shape}
use Rattle.shape.specs.Shape.{layout_of, size_of}

-- s is a sound stripe of the good shape h
pub record Ready (h : Shape) (s : List ℕ) : Type 0 where
  pub good : Good h.n h.r h.s
  pub size : length s ≡ size_of h
  pub sound : (k : ℕ) → k < h.e → Sound (layout_of h) (at s h.e k)

-- c is the shape that is set
pub record Holds (c : Option Shape) (room : List ℕ) : Type 0 where
  pub long : length room ≡ 32768
  pub ready : (h : Shape) → c ≡ Some h → (size_of h ≤ 32768) × Ready h (take (size_of h) room)

-- so it is before a shape is set
pub unset_holds : (room : List ℕ) → length room ≡ 32768 → Holds None room
unset_holds room l = record { long = l; ready = λ h q. absurd (let z : ◌≡◌ {A = ℕ} 0 1 = cc in omega arith) }

-- ---- the fact has one proof at most

Good-prop : (n r s : ℕ) → IsProp (Good n r s)
Good-prop n r s (wide a b) (wide c d) = ap₂ wide (le_prop a c) (le_prop b d)
Good-prop n r s (wide a b) (narrow c d) = absurd (omega arith)
Good-prop n r s (narrow a b) (wide c d) = absurd (omega arith)
Good-prop n r s (narrow a b) (narrow c d) = ap₂ narrow (le_prop a c) (le_prop b d)

pub Holds-prop : (c : Option Shape) (room : List ℕ) → IsProp (Holds c room)
Holds-prop c room = hlevel (props, Good-prop)
