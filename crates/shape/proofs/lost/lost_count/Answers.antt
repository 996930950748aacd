-- `lost_count` meets its contract: each one is a lost strip. Assumes nothing.
use Rattle.std.proofs.Common.{arith}
use Rattle.std.proofs.lemmas.Nat.{ones-le}
use Rattle.shape.specs.MaskLaws.{ones_count}
use Rattle.shape.proofs.lost.lost_count.Goals as goal

pub returns : goal.returns
returns c =
    record {
      is = ones_count 64 c.args.mask c.ranges.mask.fits;
      below = omega (arith, ones-le 64 c.args.mask c.ranges.mask.fits);
    }
