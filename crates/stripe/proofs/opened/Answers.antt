-- `stripe::opened` meets its contract: judge's answer, and the length after it. Assumes nothing.
use Rattle.shape.proofs.Exit.{exit_is}
use Rattle.stripe.specs.OpenedLaws.{opens_refused, opens_length, opens_good}
use Rattle.stripe.proofs.opened.Goals as goal

pub returns-in_err-shape : goal.returns-in_err-shape
returns-in_err-shape c =
    rw (exit_is _ c.from_residual.ensures.1) (opens_refused _ _ _ _ _ _ c.judge.ensures _ c.in_err-shape.was)

pub returns-then-other : goal.returns-then-other
returns-then-other c =
    opens_length _ _ _ _ _ _ c.judge.ensures _ _ c.in_ok-shape.was c.if-other.true

pub returns : goal.returns
returns c =
    opens_good _ _ _ _ _ _ c.judge.ensures _ _ c.in_ok-shape.was c.if-other.false
