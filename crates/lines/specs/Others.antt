-- One place of a line, and the others: a step sets the one to the sum of the others. Assumes nothing.
-- others ps v == the places ps but for place v, whose room the last one takes
use Rattle.std.specs.Prelude.{ℕ, ◌-◌, ◌<◌, ◌≡◌, List, eqb, length, get_or}
use Rattle.code.specs.Sum.{pick, table}
use Rattle.code.specs.Place.{at}
use Rattle.code.specs.Layout.{Layout, line}
use Rattle.code.specs.Run.{Ran}

unfoldable pub others : List ℕ → ℕ → List ℕ
others ps v = table (length ps - 1) (λ w. get_or ps (pick (eqb w v) (length ps - 1) w) 0)

-- after is before with place v of line t built: nothing else changes, and the line sums to zero in every byte
pub record Builds (L : Layout) (e t v : ℕ) (before after : List ℕ) : Type 0 where
  pub size : length after ≡ length before
  pub each : (k : ℕ) → k < e → Ran (line L t) (get_or (line L t) v 0) (at before e k) (at after e k)
