-- `fiddlefern::fiddlefern_scrub` meets its contract: it is scrub's answer, packed. Assumes nothing.
use Rattle.fiddlefern.specs.ScrubSmall.{rows_small, diagonals_small, finding_small, refusal_small}
use Rattle.fiddlefern.specs.Exports.{scrub_counted, scrub_refused}
use Rattle.fiddlefern.proofs.fiddlefern_scrub.Goals as goal

pub packed_count-requires : goal.packed_count-requires
packed_count-requires c =
    record {
      counts = (rows_small _ _ _ _ c.args.stripe.now _ c.scrub.ensures _ c.in-Ok.is, diagonals_small _ _ _ _ c.args.stripe.now _ c.scrub.ensures _ c.in-Ok.is);
      finding = finding_small _ _ _ _ c.args.stripe.now _ c.scrub.ensures _ c.in-Ok.is;
    }

pub packed-requires : goal.packed-requires
packed-requires c =
    refusal_small _ _ _ _ c.args.stripe.now _ c.scrub.ensures _ c.in-Err.is

pub returns-in-Ok : goal.returns-in-Ok
returns-in-Ok c =
    scrub_counted _ _ _ _ c.args.stripe.now _ c.scrub.ensures _ c.in-Ok.is _ c.packed_count.ensures

pub returns-in-Err : goal.returns-in-Err
returns-in-Err c =
    scrub_refused _ _ _ _ c.args.stripe.now _ c.scrub.ensures _ c.in-Err.is _ c.packed.ensures
