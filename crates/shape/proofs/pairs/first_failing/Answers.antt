-- `shape::pairs::first_failing` meets its contract: every pair passed is decided by the rest. Assumes nothing.
use Rattle.std.proofs.Common.{arith}
use Rattle.shape.specs.Pairs.{passed_start, passed_turn, passed_next, passed_row, passed_first, passed_all}
use Rattle.shape.proofs.pairs.first_failing.Goals as goal

pub loop-a-init : goal.loop-a-init
loop-a-init c =
    passed_start _

pub loop-b-init : goal.loop-b-init
loop-b-init c =
    passed_turn _ _ _ c.loop-a.invariant (omega arith)

pub returns-then-fails : goal.returns-then-fails
returns-then-fails c =
    passed_first _ _ _ c.loop-b.invariant (omega arith) (omega arith) (c.fails.ensures.fails c.if-fails.true)

pub loop-b-preserved : goal.loop-b-preserved
loop-b-preserved c =
    passed_next _ _ _ c.loop-b.invariant (c.fails.ensures.decided c.if-fails.false)

pub loop-a-preserved : goal.loop-a-preserved
loop-a-preserved c =
    passed_row _ _ _ c.loop-b.invariant (omega arith)

pub returns : goal.returns
returns c =
    passed_all _ _ _ c.loop-a.invariant (omega arith)
