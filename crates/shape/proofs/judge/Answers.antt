-- `shape::judge` meets its contract: within gives the refusals 1 to 4, and a shape that it lets through is judged. Assumes nothing.
use Rattle.std.proofs.Common.{refl}
use Rattle.shape.proofs.Exit.{exit_is}
use Rattle.shape.specs.JudgeLaws.{judges_refused, judges_inside}
use Rattle.shape.proofs.judge.Goals as goal

pub returns-in_err-shape : goal.returns-in_err-shape
returns-in_err-shape c =
    rw (exit_is _ c.from_residual.ensures.1) (judges_refused _ _ _ _ _ c.in_err-shape.ensures _ refl)

pub returns : goal.returns
returns c = judges_inside _ _ _ _ _ c.within.ensures _ c.in_ok-shape.was _ c.judge_shape.ensures
