-- `wrong_lines` meets its contract: from v on the wrong lines are counted, and `first` is the first of them. Assumes nothing.
use Rattle.std.proofs.Common.{◌+◌}
use Rattle.code.specs.Layout.{line}
use Rattle.code.specs.Shift.{shift}
use Rattle.lines.specs.Unbalanced.{unbalanced}
use Rattle.finding.specs.Tally.{Tallying}
use Rattle.finding.proofs.wrong_lines.Given as goal

abbrev pub invariant-loop-v : goal.invariant-loop-v
invariant-loop-v l =
    Tallying l.m (λ v. unbalanced l.stripe.shape.e l.stripe.bytes.now (line (shift l.stripe.shape.n l.stripe.shape.r l.stripe.shape.s) (l.from + v))) l.v l.count l.first
