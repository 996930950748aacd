-- A line as the code lists it: the bytes where its elements start. Assumes nothing.
use Rattle.std.specs.Prelude.{◌≡◌, List, ℕ, ◌*◌, ◌<◌, length, get_or}
use Rattle.code.specs.Layout.{Layout, line}

-- the first m of os are where the elements of line t start, its parity last
pub record Listed (L : Layout) (e t : ℕ) (os : List ℕ) (m : ℕ) : Type 0 where
  pub room : length os ≡ 33
  pub count : m ≡ length (line L t)
  pub each : (v : ℕ) → v < m → get_or os v 0 ≡ get_or (line L t) v 0 * e
