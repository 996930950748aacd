-- `map_of` meets its contract: what its map draws is fair. Assumes nothing.
use Rattle.shape.specs.MapLaws.{filled_fair}
use Rattle.shape.proofs.map.map_of.Goals as goal

pub invariant_of-result : goal.invariant_of-result
invariant_of-result c =
    let l = c.args.shape.limits in
    record { strips = l.n_high; rows = l.r_high; fair = filled_fair c.args.shape c.diagonals_of.ensures c.homes.ensures }
