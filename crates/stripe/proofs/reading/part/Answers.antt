-- `part` meets its contract: the part lies inside the stripe, and is the element. Assumes nothing.
use Rattle.std.proofs.Common.{arith}
use Rattle.code.specs.Shift.{shift}
use Rattle.stripe.specs.ReadLaws.{part_inside, part_is}
use Rattle.stripe.proofs.reading.part.Goals as goal

pub overflow_mul-a : goal.overflow_mul-a
overflow_mul-a c =
    omega (arith, (part_inside (shift c.args.stripe.shape.n c.args.stripe.shape.r c.args.stripe.shape.s) c.args.stripe.shape.e c.args.row c.args.strip c.args.stripe.bytes.now c.args.stripe.sized c.place.result c.place.ensures.below))

pub overflow_add-b : goal.overflow_add-b
overflow_add-b c =
    omega (arith, (part_inside (shift c.args.stripe.shape.n c.args.stripe.shape.r c.args.stripe.shape.s) c.args.stripe.shape.e c.args.row c.args.strip c.args.stripe.bytes.now c.args.stripe.sized c.place.result c.place.ensures.below))

pub slice_bounds-result-end : goal.slice_bounds-result-end
slice_bounds-result-end c =
    omega (arith, (part_inside (shift c.args.stripe.shape.n c.args.stripe.shape.r c.args.stripe.shape.s) c.args.stripe.shape.e c.args.row c.args.strip c.args.stripe.bytes.now c.args.stripe.sized c.place.result c.place.ensures.below))

pub returns : goal.returns
returns c =
    part_is (shift c.args.stripe.shape.n c.args.stripe.shape.r c.args.stripe.shape.s) c.args.stripe.shape.e c.args.row c.args.strip c.args.stripe.bytes.now c.place.result c.place.ensures.is
