-- `fiddlefern::fiddlefern_read` meets its contract: it is read_check's answer, packed with the element's offset. Assumes nothing.
use Rattle.std.proofs.Common.{arith}
use Rattle.fiddlefern.specs.Exports.{check_small, height_fits, strip_fits, place_fits, offset_fits, read_done, read_refused}
use Rattle.fiddlefern.proofs.fiddlefern_read.Goals as goal

pub overflow_add-result : goal.overflow_add-result
overflow_add-result c =
    omega (arith, height_fits _ _ _ c.args.e c.args.row c.args.strip c.args.stripe.now _ c.read_check.ensures c.in-Ok.is)

pub overflow_mul-result : goal.overflow_mul-result
overflow_mul-result c =
    omega (arith, strip_fits _ _ _ c.args.e c.args.row c.args.strip c.args.stripe.now _ c.read_check.ensures c.in-Ok.is)

pub overflow_add-result-in-Ok : goal.overflow_add-result-in-Ok
overflow_add-result-in-Ok c =
    omega (arith, place_fits _ _ _ c.args.e c.args.row c.args.strip c.args.stripe.now _ c.read_check.ensures c.in-Ok.is)

pub overflow_mul-result-in-Ok : goal.overflow_mul-result-in-Ok
overflow_mul-result-in-Ok c =
    omega (arith, offset_fits _ _ _ c.args.e c.args.row c.args.strip c.args.stripe.now _ c.read_check.ensures c.in-Ok.is)

pub overflow_mul-result-in-Ok-2 : goal.overflow_mul-result-in-Ok-2
overflow_mul-result-in-Ok-2 c =
    omega (arith, offset_fits _ _ _ c.args.e c.args.row c.args.strip c.args.stripe.now _ c.read_check.ensures c.in-Ok.is)

pub packed-requires : goal.packed-requires
packed-requires c =
    (check_small _ _ _ c.args.e c.args.row c.args.strip c.args.stripe.now _ c.read_check.ensures).pair _ c.in-Err.is

pub returns-in-Ok : goal.returns-in-Ok
returns-in-Ok c =
    read_done _ _ _ c.args.e c.args.row c.args.strip c.args.stripe.now _ c.read_check.ensures c.in-Ok.is

pub returns-in-Err : goal.returns-in-Err
returns-in-Err c =
    read_refused _ _ _ c.args.e c.args.row c.args.strip c.args.stripe.now _ c.read_check.ensures _ c.in-Err.is _ c.packed.ensures
