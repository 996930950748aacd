-- The map of diagonals of a shape. Assumes nothing.
use Rattle.std.specs.Prelude.{ℕ, ◌+◌, ◌%◌, ◌<◌, ◌≤◌, ◌≡◌, ◌⊎◌, List, get_or}
use Rattle.code.specs.Drawn.{cell}
use Rattle.code.specs.Shift.{diagonal}
use Rattle.walker.specs.declared.map.Map.{Map}
use Rattle.shape.specs.declared.shapes.Shape.{Shape}

-- every place of the n strips and r rows has its diagonal, and zero stands beside them
pub record Filled (g : List (List ℕ)) (n r s : ℕ) : Type 0 where
  pub at : (i j : ℕ) → i < r → j < n → cell g i j ≡ diagonal n r s i j
  pub beside : (i j : ℕ) → (r ≤ i) ⊎ (n ≤ j) → cell g i j ≡ 0

-- the parity of each diagonal stands on the strip of its number
pub record Homes (h : List ℕ) : Type 0 where
  pub at : (d : ℕ) → d < 32 → get_or h d 0 ≡ d

-- m is the map of the shape h
pub record Maps (h : Shape) (m : Map) : Type 0 where
  pub strips : m.n ≡ h.n
  pub rows : m.r ≡ h.r
  pub diagonals : Filled m.diagonals h.n h.r h.s
  pub homes : Homes m.homes

-- the first m of the n diagonals from d on, round them, and zeros after them
pub record Turned (t : List ℕ) (d n m : ℕ) : Type 0 where
  pub at : (j : ℕ) → j < m → get_or t j 0 ≡ (d + j) % n
  pub beyond : (j : ℕ) → m ≤ j → get_or t j 0 ≡ 0
