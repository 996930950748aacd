-- `start` meets its contract: where an element starts fits. Assumes nothing.
use Rattle.std.proofs.Common.{arith, ap, ℕ, ◌*◌}
use Rattle.code.specs.Place.{inside}
use Rattle.shape.specs.Answers.{bytes_most}
use Rattle.lines.proofs.listing.start.Goals as goal

pub overflow_mul-result : goal.overflow_mul-result
overflow_mul-result c =
    omega (arith, inside c.args.shape.e c.place.result _ c.place.ensures.below, bytes_most _ _ _ _ c.args.shape.limits)

pub returns : goal.returns
returns c =
    ap (λ (p : ℕ). p * c.args.shape.e) c.place.ensures.is
