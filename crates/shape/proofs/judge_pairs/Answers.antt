-- `shape::judge_pairs` meets its contract: the map draws the shift family's layout, so its first failing pair is the shape's, and where no
-- pair fails the shape is good. Assumes nothing.
use Rattle.std.proofs.Common.{sym, subst}
use Rattle.code.specs.Layout.{Latin}
use Rattle.shape.specs.MapLaws.{maps_drawn}
use Rattle.shape.specs.Pairs.{FirstOf}
use Rattle.shape.specs.WithinLaws.{shape_itself}
use Rattle.shape.specs.PairsLaws.{shape_latin, shape_weak, shape_good}
use Rattle.shape.proofs.judge_pairs.Goals as goal

pub first_failing-requires : goal.first_failing-requires
first_failing-requires c =
    let map = c.map_of.ensures in
    subst Latin (sym (maps_drawn map)) (shape_latin _ _ _ _ _ _ c.args.shape.limits c.requires map.diagonals map.homes)

pub returns-in-Some : goal.returns-in-Some
returns-in-Some c =
    let map = c.map_of.ensures in
    shape_weak _ _ _ _ _ _ c.args.shape.limits map.diagonals map.homes
    _ (subst (λ L. FirstOf L c.first_failing.result) (maps_drawn map) c.first_failing.ensures) _ _ c.in-Some.is

pub returns-in-None : goal.returns-in-None
returns-in-None c =
    let map = c.map_of.ensures in
    shape_good _ _ _ _ _ _ c.args.shape.limits map.diagonals map.homes
    _ (subst (λ L. FirstOf L c.first_failing.result) (maps_drawn map) c.first_failing.ensures) c.in-None.is _ (shape_itself _) _ c.size.ensures.bytes
