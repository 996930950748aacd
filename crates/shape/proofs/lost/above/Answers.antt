-- `above` meets its contract, by the leading zeros. Assumes nothing.
use Rattle.std.proofs.Common.{arith}
use Rattle.std.proofs.lemmas.Nat.{leading_le}
use Rattle.shape.specs.MaskEnds.{leading_above}
use Rattle.shape.proofs.lost.above.Goals as goal

pub overflow_cast-result : goal.overflow_cast-result
overflow_cast-result c =
    omega (arith, leading_le 64 c.args.mask)

pub returns : goal.returns
returns c =
    leading_above c.args.mask c.ranges.mask.fits c.args.n c.requires
