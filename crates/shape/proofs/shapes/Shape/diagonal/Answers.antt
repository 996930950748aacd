-- `diagonal` meets its contract: nothing overflows, and the difference does not fall below zero. Assumes nothing.
use Rattle.std.proofs.Common.{arith, mod-lt, refl}
use Rattle.code.specs.Shift as shift
use Rattle.shape.specs.Answers.{front_most, front_enough}
use Rattle.shape.proofs.shapes.Shape.diagonal.Goals as goal

pub overflow_mul-result : goal.overflow_mul-result
overflow_mul-result c =
    let m = front_most _ _ _ _ c.args.self.limits in omega arith

pub overflow_add-result : goal.overflow_add-result
overflow_add-result c =
    let m = front_most _ _ _ _ c.args.self.limits in omega arith

pub overflow_add-result-2 : goal.overflow_add-result-2
overflow_add-result-2 c =
    let m = front_most _ _ _ _ c.args.self.limits in omega arith

pub overflow_sub-result : goal.overflow_sub-result
overflow_sub-result c =
    let m = front_enough _ _ _ _ c.args.self.limits in omega arith

pub returns : goal.returns
unfolding shift.diagonal
returns c =
    record { is = refl; below = mod-lt _ (omega arith) }
