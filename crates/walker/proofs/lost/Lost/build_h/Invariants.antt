-- `build_h` meets its contract: the H of the rows passed were written down. Assumes nothing.
use Rattle.walker.specs.Closing.{WrittenH}
use Rattle.walker.proofs.lost.Lost.build_h.Given as goal

abbrev pub invariant-loop-h : goal.invariant-loop-h
invariant-loop-h l = WrittenH l.self.map.now.n l.self.map.now.r l.self.b l.initial.plan.steps l.initial.plan.count l.plan.steps l.plan.count l.h
