-- `stripe::encode` meets its contract: see `Calls`. Assumes nothing.
use Rattle.stripe.specs.Calls.{shape_size, encode_refused, encode_done}
use Rattle.stripe.proofs.encode.Goals as goal

pub returns-in_default : goal.returns-in_default
returns-in_default c =
    encode_refused _ _ _ _ c.args.stripe.now _ c.opened-judged.ensures _ c.unwrap_err.ensures

pub encode_shape-requires : goal.encode_shape-requires
encode_shape-requires c =
    shape_size _ _ _ _ c.args.stripe.now _ c.opened-judged.ensures _ _ c.in-Ok.is

pub returns : goal.returns
returns c =
    encode_done _ _ _ _ c.args.stripe.now _ c.opened-judged.ensures _ _ c.in-Ok.is _ c.encode_shape.ensures
