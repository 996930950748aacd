-- One written step run on the bytes: its target becomes the sum of the rest of its line. Assumes nothing.
-- x == a step (kind, row, strip)    t == the line it uses
use Rattle.std.specs.Prelude.{ℕ, ◌+◌, ◌<◌, ◌≡◌, List}
use Rattle.code.specs.Layout.{Layout, X}
use Rattle.code.specs.Steps.{Written, line_of}
use Rattle.rebuild.specs.RunTo.{StepSet}

-- the four kinds, each inside a shape of n strips and r rows
pub data Shaped (n r : ℕ) (x : Written) : Type 0 where
  data_row : x.kind ≡ 1 → x.row < r → x.strip < n → Shaped n r x
  data_diagonal : x.kind ≡ 2 → x.row < r → x.strip < n → Shaped n r x
  h_row : x.kind ≡ 3 → x.row < r → x.strip ≡ n → Shaped n r x
  v_diagonal : x.kind ≡ 4 → x.row ≡ r → x.strip < n → Shaped n r x

-- after is before with the step run, and t is its line
pub record Stepped (L : Layout) (e : ℕ) (x : Written) (before after : List ℕ) (t : ℕ) : Type 0 where
  pub its_line : t ≡ line_of L x
  pub below : t < L.r + L.n
  pub set : StepSet L e (record { line = line_of L x; target = X L x.row x.strip }) before after
