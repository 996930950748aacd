-- `fiddlefern::fiddlefern_write` meets its contract: it is write's answer, packed. Assumes nothing.
use Rattle.fiddlefern.specs.Exports.{write_small}
use Rattle.fiddlefern.proofs.fiddlefern_write.Goals as goal

pub packed_answer-requires : goal.packed_answer-requires
packed_answer-requires c =
    write_small _ _ _ _ _ _ _ _ _ _ _ c.write.ensures
