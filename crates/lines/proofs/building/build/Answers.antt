-- `build` meets its contract: a gather over the listed others, the last in the room of the one. Assumes nothing.
use Rattle.std.proofs.Common.{arith}
use Rattle.code.proofs.ShiftLaws.{shift_fair}
use Rattle.lines.specs.ListedCount.{listed_count}
use Rattle.lines.specs.BuildLaws.{build_inside, build_fits, build_apart, gathered_builds}
use Rattle.lines.proofs.building.build.Goals as goal

pub gather-requires : goal.gather-requires
gather-requires c =
    let fair = shift_fair c.args.shape.n c.args.shape.r c.args.shape.s (omega arith) in
    let line = c.requires.line in
    let count = listed_count _ _ _ _ _ _ _ c.args.shape.limits line.0 c.line.ensures in
    let own = c.swap_remove-o.ensures in (
      build_inside _ fair _ _ line.0 _ line.1 _ _ c.line.ensures count _ own.its _ c.requires.size,
      build_fits _ fair _ _ line.0 _ line.1 _ _ c.line.ensures count _ own.its c.starts.result.now (cc (c.starts.ensures, own.count, own.starts)) _ c.requires.size,
      build_apart _ fair _ _ line.0 _ line.1 _ _ c.line.ensures count _ own.its c.starts.result.now (cc (c.starts.ensures, own.count, own.starts)),
    )

pub returns : goal.returns
returns c =
    let fair = shift_fair c.args.shape.n c.args.shape.r c.args.shape.s (omega arith) in
    let line = c.requires.line in
    let count = listed_count _ _ _ _ _ _ _ c.args.shape.limits line.0 c.line.ensures in
    let own = c.swap_remove-o.ensures in
    gathered_builds _ fair _ _ line.0 _ line.1 _ _ c.line.ensures count _ own.its c.starts.result.now (cc (c.starts.ensures, own.count, own.starts)) _ _
    c.gather.ensures
