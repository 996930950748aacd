-- `size` meets its contract: the size of a stripe fits. Assumes nothing.
use Rattle.std.proofs.Common.{arith, refl}
use Rattle.shape.specs.Answers.{places_most, bytes_most}
use Rattle.shape.proofs.shapes.Shape.size.Goals as goal

pub overflow_mul-result : goal.overflow_mul-result
overflow_mul-result c =
    let m = places_most _ _ _ _ c.args.self.limits in omega arith

pub overflow_add-result-2 : goal.overflow_add-result-2
overflow_add-result-2 c =
    let m = places_most _ _ _ _ c.args.self.limits in omega arith

pub overflow_mul-result-2 : goal.overflow_mul-result-2
overflow_mul-result-2 c =
    let m = bytes_most _ _ _ _ c.args.self.limits in omega arith

pub returns : goal.returns
returns c =
    record { bytes = refl; most = bytes_most _ _ _ _ c.args.self.limits }
