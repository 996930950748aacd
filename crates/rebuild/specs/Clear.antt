-- A strip filled with a value, and a strip cleared: its bytes become the value, which is zero where it is cleared; the others stay. Assumes nothing.
-- Rows L j m == strip j stores m rows; strip n stores one fewer than the others, for the corner is not stored
use Rattle.std.specs.Prelude.{◌≡◌, ◌≢◌, List, ℕ, ◌<◌, ◌≤◌, length}
use Rattle.code.specs.Place.{at, strip_of}
use Rattle.code.specs.Layout.{Layout, height, places}

pub record Rows (L : Layout) (j m : ℕ) : Type 0 where
  pub before_n : j < L.n → m ≡ height L
  pub last : L.n ≤ j → m ≡ L.r

-- after is before with every byte of the strip set to value
pub record FillsStrip (L : Layout) (e strip value : ℕ) (before after : List ℕ) : Type 0 where
  pub size : length after ≡ length before
  pub filled : (p k : ℕ) → p < places L → k < e → strip_of (height L) p ≡ strip → at after e k p ≡ value
  pub kept : (p k : ℕ) → k < e → strip_of (height L) p ≢ strip → at after e k p ≡ at before e k p

-- after is before with every byte of the strip zero
abbrev pub Clears : Layout → ℕ → ℕ → List ℕ → List ℕ → Type 0
Clears L e strip before after = FillsStrip L e strip 0 before after
