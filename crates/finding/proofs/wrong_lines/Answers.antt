-- `wrong_lines` meets its contract: from v on the wrong lines are counted, and `first` is the first of them. Assumes nothing.
use Rattle.std.proofs.Common.{arith, sym, ◌∙◌}
use Rattle.finding.proofs.TallyLaws.{tallying_yes, tallying_no, tallying_all}
use Rattle.finding.proofs.wrong_lines.Goals as goal

pub loop-v-preserved-then-wrong_line : goal.loop-v-preserved-then-wrong_line
loop-v-preserved-then-wrong_line c =
    tallying_yes _ _ _ _ _ _ (omega arith) c.loop-v.invariant (sym c.wrong_line.ensures ∙ c.if-wrong_line.true)

pub loop-v-preserved : goal.loop-v-preserved
loop-v-preserved c =
    tallying_no _ _ _ _ _ _ (omega arith) c.loop-v.invariant (sym c.wrong_line.ensures ∙ c.if-wrong_line.false)

pub returns : goal.returns
returns c =
    tallying_all _ _ _ _ _ c.loop-v-test.false c.loop-v.invariant
