-- `unused_zero` meets its contract: the unused ones of the first t lines sum to zero. Assumes nothing.
use Rattle.std.proofs.Common.{arith, sym, ◌∙◌}
use Rattle.rebuild.specs.TestingLaws.{passed_used, passed_right, wrong_tests}
use Rattle.rebuild.proofs.testing.unused_zero.Goals as goal
use Rattle.rebuild.proofs.testing.unused_zero.Goals.{else-unused-via-then-unused+else-wrong_line, else-unused-via-else-unused}

pub returns-then-wrong_line : goal.returns-then-wrong_line
returns-then-wrong_line c =
    wrong_tests _ _ _ _ _ (omega arith) c.if-unused.true (sym c.wrong_line.ensures ∙ c.if-wrong_line.true)

pub loop-t-preserved : goal.loop-t-preserved
loop-t-preserved c =
    elim c.else-unused.branch [
      | else-unused-via-then-unused+else-wrong_line w ↦
          passed_right _ _ _ _ _ (sym w.wrong_line.ensures ∙ w.if-wrong_line.false) c.loop-t.invariant
      | else-unused-via-else-unused w ↦
          passed_used _ _ _ _ _ w.if-unused.false c.loop-t.invariant
    ]
