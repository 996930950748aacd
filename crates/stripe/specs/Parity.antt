-- The parity of a line is its last place: H of a row, U of a diagonal. Assumes nothing.
-- parity L t == the parity's place
use Rattle.std.specs.Prelude.{ℕ, ◌-◌, length, get_or}
use Rattle.code.specs.Layout.{Layout, line}

unfoldable pub parity : Layout → ℕ → ℕ
parity L t = get_or (line L t) (length (line L t) - 1) 0
