-- `sweep` meets its contract: the rows and the diagonals passed give nothing, by the laws of `Sweep`. Assumes nothing.
use Rattle.walker.specs.Lines.{layout, lost}
use Rattle.walker.specs.Sweep.{Swept}
use Rattle.walker.proofs.lost.Lost.sweep.Given as goal

abbrev pub invariant-loop-i : goal.invariant-loop-i
invariant-loop-i l = Swept (layout l.self) (lost l.self) l.so_far.built l.so_far.plan.steps l.so_far.plan.count l.i 0

abbrev pub invariant-loop-d : goal.invariant-loop-d
invariant-loop-d l = Swept (layout l.self) (lost l.self) l.so_far.built l.so_far.plan.steps l.so_far.plan.count l.self.map.now.r l.d
