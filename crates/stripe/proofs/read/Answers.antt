-- `stripe::read` meets its contract: see `Calls`. Assumes nothing.
use Rattle.std.proofs.Common.{sym, ◌∙◌}
use Rattle.stripe.specs.Calls.{inside_shape, read_none, read_outside, read_inside}
use Rattle.stripe.proofs.read.Goals as goal

pub returns-in_default : goal.returns-in_default
returns-in_default c =
    read_none _ _ _ _ c.args.stripe.now _ c.opened.ensures _ c.in_default.is _ _

pub returns-then-outside : goal.returns-then-outside
returns-then-outside c =
    read_outside _ _ _ _ c.args.stripe.now _ c.opened.ensures _ _ c.in-Ok.is _ _ (sym c.outside.ensures ∙ c.if-outside.true)

pub part-requires : goal.part-requires
part-requires c =
    let inside = inside_shape _ _ _ _ c.args.stripe.now _ c.opened.ensures _ _ c.in-Ok.is _ _ 0 0 (sym c.outside.ensures ∙ c.if-outside.false) in
    record { place = (inside.0, inside.1) }

pub returns : goal.returns
returns c =
    read_inside _ _ _ _ c.args.stripe.now _ c.opened.ensures _ _ c.in-Ok.is _ _ _ (sym c.outside.ensures ∙ c.if-outside.false) c.part.ensures
