-- `walker::walk` meets its contract: it begins with nothing built, and ends with every line passed. Assumes nothing.
use Rattle.std.proofs.Common.{arith, refl}
use Rattle.code.specs.LayoutLaws.{pair_left, pair_right}
use Rattle.walker.specs.Map.{drawn_by}
use Rattle.walker.specs.Sweep.{begin, h_room, walk_left}
use Rattle.walker.specs.ClosingLaws.{both_built, walk_built}
use Rattle.walker.proofs.walk.Goals as goal
use Rattle.walker.proofs.walk.Goals.{then-not-strip_built-via-then-not-strip_built, then-not-strip_built-via-else-not-strip_built+then-not-strip_built-2}

pub sweep-requires : goal.sweep-requires
sweep-requires c =
    begin (drawn_by c.args.map.now) c.args.a c.args.b c.args.map.now.strips c.args.map.now.rows _ _ c.new.ensures

pub build_h-requires : goal.build_h-requires
build_h-requires c =
    let L = drawn_by c.args.map.now in
    λ l. omega (arith, c.build_v.ensures.room, h_room L c.args.a c.args.b c.sweep.ensures.state (omega (arith, l, c.requires.1)))

pub returns-then-not-strip_built : goal.returns-then-not-strip_built
returns-then-not-strip_built c =
    elim c.then-not-strip_built.branch [
      | then-not-strip_built-via-then-not-strip_built w ↦
          walk_left c.args.map.now.fair c.sweep.ensures c.args.a (pair_left c.args.a c.args.b) (c.strip_built.ensures.some w.if-not-strip_built.true)
      | then-not-strip_built-via-else-not-strip_built+then-not-strip_built-2 w ↦
          walk_left c.args.map.now.fair c.sweep.ensures c.args.b (pair_right c.args.a c.args.b) (w.strip_built-else-not-strip_built.ensures.some w.if-not-strip_built-2.true)
    ]

pub returns : goal.returns
returns c =
    walk_built c.args.map.now.diagonals c.args.map.now.homes c.args.a c.args.b c.requires.0 c.args.map.now.fair c.sweep.ensures.state
    (both_built c.args.a c.args.b c.if-not-strip_built.ensures refl c.if-not-strip_built-2.ensures refl)
    c.build_v.ensures c.build_h.ensures c.build_h.new.plan.room
