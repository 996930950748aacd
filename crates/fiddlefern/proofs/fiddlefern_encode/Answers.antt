-- `fiddlefern::fiddlefern_encode` meets its contract: it is encode's answer, packed. Assumes nothing.
use Rattle.fiddlefern.specs.Exports.{encode_small}
use Rattle.fiddlefern.proofs.fiddlefern_encode.Goals as goal

pub packed_answer-requires : goal.packed_answer-requires
packed_answer-requires c =
    encode_small _ _ _ _ _ _ _ c.encode.ensures
