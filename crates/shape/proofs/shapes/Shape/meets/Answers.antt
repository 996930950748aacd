-- `meets` meets its contract. Assumes nothing.
use Rattle.std.proofs.Common.{arith, mod-lt, refl}
use Rattle.code.specs.Shift as shift
use Rattle.shape.proofs.shapes.Shape.meets.Goals as goal

pub returns : goal.returns
unfolding shift.meets
returns c =
    record { is = refl; below = mod-lt _ (omega arith) }
