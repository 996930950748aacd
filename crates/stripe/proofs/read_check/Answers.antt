-- `stripe::read_check` meets its contract: see `Calls`. Assumes nothing.
use Rattle.std.proofs.Common.{sym, ◌∙◌}
use Rattle.stripe.specs.Calls.{check_refused, outside_answered, inside_answered}
use Rattle.stripe.proofs.read_check.Goals as goal

pub returns-in_default : goal.returns-in_default
returns-in_default c =
    check_refused _ _ _ _ c.args.stripe.now _ c.opened-judged.ensures _ c.unwrap_err.ensures _ _

pub returns-then-outside : goal.returns-then-outside
returns-then-outside c =
    outside_answered _ _ _ _ c.args.stripe.now _ c.opened-judged.ensures _ _ c.in-Ok.is _ _ 0 0 (sym c.outside.ensures ∙ c.if-outside.true)

pub returns : goal.returns
returns c =
    inside_answered _ _ _ _ c.args.stripe.now _ c.opened-judged.ensures _ _ c.in-Ok.is _ _ 0 0 (sym c.outside.ensures ∙ c.if-outside.false)
