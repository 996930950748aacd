-- The layout and the lost strips of the code, as `code` has them. Assumes nothing.
use Rattle.std.specs.Prelude.{ℕ, Bool}
use Rattle.code.specs.Layout.{Layout, pair}
use Rattle.walker.specs.Map.{drawn_by}
use Rattle.walker.specs.declared.lost.Lost.{Lost}

-- the layout that the map draws, and which strips are lost
abbrev pub layout : Lost → Layout
layout x = drawn_by x.map.now

abbrev pub lost : Lost → ℕ → Bool
lost x = pair x.a x.b
