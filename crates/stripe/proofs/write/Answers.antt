-- `stripe::write` meets its contract: see `Calls`. Assumes nothing.
use Rattle.std.proofs.Common.{sym, ◌∙◌}
use Rattle.stripe.specs.Calls.{shape_size, inside_shape, write_refused, write_outside, write_done}
use Rattle.stripe.proofs.write.Goals as goal

pub returns-in_default : goal.returns-in_default
returns-in_default c =
    write_refused _ _ _ _ c.args.stripe.now _ c.opened-judged.ensures _ c.unwrap_err.ensures _ _ _ _

pub returns-then-outside : goal.returns-then-outside
returns-then-outside c =
    write_outside _ _ _ _ c.args.stripe.now _ c.opened-judged.ensures _ _ c.in-Ok.is _ _ _ _ (sym c.outside.ensures ∙ c.if-outside.true)

pub write_shape-requires : goal.write_shape-requires
write_shape-requires c =
    record {
      size = shape_size _ _ _ _ c.args.stripe.now _ c.opened-judged.ensures _ _ c.in-Ok.is;
      place = inside_shape _ _ _ _ c.args.stripe.now _ c.opened-judged.ensures _ _ c.in-Ok.is _ _ _ _ (sym c.outside.ensures ∙ c.if-outside.false);
    }

pub returns : goal.returns
returns c =
    write_done _ _ _ _ c.args.stripe.now _ c.opened-judged.ensures _ _ c.in-Ok.is _ _ _ _ _ (sym c.outside.ensures ∙ c.if-outside.false) c.write_shape.ensures
