-- `fill_strip` meets its contract: the strip is one run of bytes, and it fits. Assumes nothing.
use Rattle.std.proofs.Common.{arith, mul-le-mul, ◌+◌, ◌≤◌}
use Rattle.shape.specs.Answers.{bytes_most}
use Rattle.rebuild.specs.ClearLaws.{clear_inside, filled_strip}
use Rattle.rebuild.proofs.clearing.fill_strip.Goals as goal

pub overflow_mul-d : goal.overflow_mul-d
overflow_mul-d c =
    let h : c.args.strip ≤ 32 = omega (arith, c.args.shape.limits.n_high, c.requires.strip) in
    let g : c.args.shape.r + 1 ≤ 33 = omega (arith, c.args.shape.limits.r_high) in
    omega (arith, mul-le-mul h g)

pub overflow_mul-d-2 : goal.overflow_mul-d-2
overflow_mul-d-2 c =
    let inside = clear_inside _ c.args.shape.e _ _ c.requires.strip c.rows-m.ensures c.args.stripe.now c.requires.size in
    omega (arith, inside, c.requires.size, bytes_most _ _ _ _ c.args.shape.limits)

pub overflow_mul-m : goal.overflow_mul-m
overflow_mul-m c =
    let inside = clear_inside _ c.args.shape.e _ _ c.requires.strip c.rows-m.ensures c.args.stripe.now c.requires.size in
    omega (arith, inside, c.requires.size, bytes_most _ _ _ _ c.args.shape.limits)

pub fill-requires : goal.fill-requires
fill-requires c =
    clear_inside _ c.args.shape.e _ _ c.requires.strip c.rows-m.ensures c.args.stripe.now c.requires.size

pub returns : goal.returns
returns c =
    filled_strip _ _ _ _ c.requires.strip c.rows-m.ensures _ _ _ c.fill.ensures
