-- `homes` meets its contract: the numbers from 0 on. Assumes nothing.
use Rattle.shape.specs.MapLaws.{turned_homes}
use Rattle.shape.proofs.map.homes.Goals as goal

pub returns : goal.returns
returns c =
    turned_homes _ c.turned.ensures
