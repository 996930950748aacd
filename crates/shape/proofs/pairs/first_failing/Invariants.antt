-- `shape::pairs::first_failing` meets its contract: every pair passed is decided by the rest. Assumes nothing.
use Rattle.walker.specs.Map.{drawn_by}
use Rattle.shape.specs.Pairs.{Passed}
use Rattle.shape.proofs.pairs.first_failing.Given as goal

abbrev pub invariant-loop-b : goal.invariant-loop-b
invariant-loop-b l = Passed (drawn_by l.map) l.a l.b

abbrev pub invariant-loop-a : goal.invariant-loop-a
invariant-loop-a l = Passed (drawn_by l.map) l.a 0
