-- `first_lost` meets its contract, by the trailing zeros. Assumes nothing.
use Rattle.std.proofs.Common.{arith}
use Rattle.std.proofs.lemmas.Nat.{trailing_le}
use Rattle.shape.specs.MaskEnds.{trailing_first}
use Rattle.shape.proofs.lost.first_lost.Goals as goal

pub overflow_cast-result : goal.overflow_cast-result
overflow_cast-result c =
    omega (arith, trailing_le 64 c.args.mask)

pub returns : goal.returns
returns c =
    trailing_first c.args.mask c.ranges.mask.fits c.requires
