-- `next_on` meets its contract: every lost element of the diagonal in the rows passed is flagged. Assumes nothing.
use Rattle.std.proofs.Common.{◌≤◌}
use Rattle.code.specs.Drawn.{cell}
use Rattle.walker.specs.Lines.{lost}
use Rattle.walker.specs.Search.{Passed}
use Rattle.walker.proofs.lost.Lost.next_on.Given as goal

abbrev pub invariant-loop-i : goal.invariant-loop-i
invariant-loop-i l = (l.from ≤ l.i) × Passed (cell l.self.map.now.diagonals) l.self.map.now.n (lost l.self) l.built l.d l.from l.i
