-- `place` meets its contract: the place is one of the stripe's, and its number fits. Assumes nothing.
use Rattle.std.proofs.Common.{arith, refl}
use Rattle.shape.specs.Answers.{places_most}
use Rattle.lines.specs.ListedLaws.{place_stored}
use Rattle.lines.proofs.listing.place.Goals as goal

pub overflow_mul-result : goal.overflow_mul-result
overflow_mul-result c =
    omega (arith, (place_stored c.args.shape.n c.args.shape.r c.args.i c.args.j c.requires.0 c.requires.1 c.requires.2), places_most _ _ _ _ c.args.shape.limits)

pub overflow_add-result-2 : goal.overflow_add-result-2
overflow_add-result-2 c =
    omega (arith, (place_stored c.args.shape.n c.args.shape.r c.args.i c.args.j c.requires.0 c.requires.1 c.requires.2), places_most _ _ _ _ c.args.shape.limits)

pub returns : goal.returns
returns c =
    record { is = refl; below = (place_stored c.args.shape.n c.args.shape.r c.args.i c.args.j c.requires.0 c.requires.1 c.requires.2) }
