-- What contracts say of a map. Assumes nothing.
-- drawn_by m == the layout that the map m draws
use Rattle.code.specs.Drawn.{drawn}
use Rattle.code.specs.Layout.{Layout}
use Rattle.walker.specs.declared.map.Map.{Map}

abbrev pub drawn_by : Map → Layout
drawn_by m = drawn m.diagonals m.homes m.n m.r
