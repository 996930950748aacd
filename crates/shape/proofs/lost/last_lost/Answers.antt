-- `last_lost` meets its contract, by the leading zeros. Assumes nothing.
use Rattle.std.proofs.Common.{arith}
use Rattle.shape.specs.MaskEnds.{leading_most, leading_last}
use Rattle.shape.proofs.lost.last_lost.Goals as goal

pub overflow_cast-result : goal.overflow_cast-result
overflow_cast-result c =
    omega (arith, leading_most c.args.mask c.ranges.mask.fits c.requires)

pub overflow_sub-result : goal.overflow_sub-result
overflow_sub-result c =
    omega (arith, leading_most c.args.mask c.ranges.mask.fits c.requires)

pub returns : goal.returns
returns c =
    leading_last c.args.mask c.ranges.mask.fits c.requires
