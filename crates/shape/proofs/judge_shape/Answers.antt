-- `shape::judge_shape` meets its contract: the bound decides; a shape with r above n - s fails at strips 0 and 1. Assumes nothing.
use Rattle.std.proofs.Common.{sym, ◌∙◌, arith}
use Rattle.code.proofs.Exact.{over_first}
use Rattle.shape.specs.GoodTest.{test_good}
use Rattle.shape.specs.WithinLaws.{shape_itself}
use Rattle.shape.specs.JudgeLaws.{judges_weak, judges_good}
use Rattle.shape.proofs.judge_shape.Goals as goal

pub returns-then-good : goal.returns-then-good
returns-then-good c =
    judges_good _ _ _ _ c.args.shape.limits _ (shape_itself _) (test_good _ _ _ (sym c.good.ensures ∙ c.if-good.true)) _ c.size.ensures.bytes

pub returns-then-over : goal.returns-then-over
returns-then-over c =
    judges_weak _ _ _ _ c.args.shape.limits 0 1 (over_first _ _ _ (omega (arith, c.args.shape.limits.n_low)) c.args.shape.limits.s_high c.if-over.true)
