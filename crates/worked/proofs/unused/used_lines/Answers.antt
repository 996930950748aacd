-- `worked::unused::used_lines` meets what mark requires: every step of a walk stands inside the shape. Assumes nothing.
use Rattle.shape.specs.MapLaws.{maps_walk}
use Rattle.rebuild.specs.SteppingLaws.{walk_shaped}
use Rattle.worked.proofs.unused.used_lines.Goals as goal

pub mark-requires : goal.mark-requires
mark-requires c =
    record { steps = walk_shaped _ _ _ _ _ (maps_walk c.map_of-map.ensures c.walk.ensures) }
