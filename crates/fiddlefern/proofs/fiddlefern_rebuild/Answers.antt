-- `fiddlefern::fiddlefern_rebuild` meets its contract: it is rebuild's answer, packed. Assumes nothing.
use Rattle.fiddlefern.specs.Exports.{rebuild_small}
use Rattle.fiddlefern.proofs.fiddlefern_rebuild.Goals as goal

pub packed_answer-requires : goal.packed_answer-requires
packed_answer-requires c =
    rebuild_small _ _ _ _ _ _ _ _ c.rebuild.ensures
