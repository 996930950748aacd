-- `stripe::scrub` meets its contract: see `Calls`. Assumes nothing.
use Rattle.stripe.specs.Calls.{scrub_refused, scrub_counted}
use Rattle.stripe.proofs.scrub.Goals as goal

pub returns-in_default : goal.returns-in_default
returns-in_default c =
    scrub_refused _ _ _ _ c.args.stripe.now _ c.opened-judged.ensures _ c.unwrap_err.ensures

pub returns : goal.returns
returns c =
    scrub_counted _ _ _ _ c.args.stripe.now _ c.opened-judged.ensures _ _ c.in-Ok.is _ c.scrub_shape-counts.ensures
