-- `fiddlefern::fiddlefern_judge` meets its contract: it is judge's answer, packed. Assumes nothing.
use Rattle.std.proofs.Common.{arith}
use Rattle.shape.specs.JudgedCall.{refused_small}
use Rattle.fiddlefern.specs.Exports.{size_fits, answer_good, answer_refused}
use Rattle.fiddlefern.proofs.fiddlefern_judge.Goals as goal

pub overflow_mul-result : goal.overflow_mul-result
overflow_mul-result c =
    omega (arith, size_fits _ _ _ _ _ c.judge.ensures _ _ c.in-Ok.is)

pub packed-requires : goal.packed-requires
packed-requires c =
    refused_small _ _ _ _ _ c.judge.ensures _ c.in-Err.is

pub returns-in-Ok : goal.returns-in-Ok
returns-in-Ok c =
    answer_good _ _ _ _ _ c.judge.ensures _ _ c.in-Ok.is

pub returns-in-Err : goal.returns-in-Err
returns-in-Err c =
    answer_refused _ _ _ _ _ c.judge.ensures _ c.in-Err.is _ c.packed.ensures
