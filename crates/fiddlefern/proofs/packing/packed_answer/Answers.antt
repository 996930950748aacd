-- `fiddlefern::packing::packed_answer` meets its contract, case by case. Assumes nothing.
use Rattle.std.proofs.Common.{sym, ap, ◌∙◌}
use Rattle.fiddlefern.specs.Packed.{answer_packed}
use Rattle.fiddlefern.proofs.packing.packed_answer.Goals as goal

pub packed-requires : goal.packed-requires
packed-requires c =
    c.requires.pair _ c.in-Err.is

pub returns-in-Err : goal.returns-in-Err
returns-in-Err c =
    c.packed.ensures ∙ sym (ap (answer_packed 0) c.in-Err.is)
