-- `shape::pairs::fails` meets its contract: a walk of the pair that left something shows that it fails, and one that left nothing, that the
-- survivors decide the stripe. Assumes nothing.
use Rattle.code.specs.Stopped.{walk_exact}
use Rattle.walker.specs.Map.{drawn_by}
use Rattle.shape.proofs.pairs.fails.Goals as goal

pub returns : goal.returns
returns c =
    walk_exact (drawn_by c.args.map) c.args.map.fair c.requires.latin _ _ _ _ _ c.walk.ensures
