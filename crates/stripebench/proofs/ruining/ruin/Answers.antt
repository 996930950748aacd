-- `ruin` meets its contract: an empty mask loses nothing, and another's first and last lost strip are the pair that it loses. Assumes nothing.
use Rattle.std.proofs.Common.{rules, arith, ℕ, ◌≡◌, ap, ◌∙◌}
use Rattle.shape.specs.Mask.{lost_in}
use Rattle.shape.specs.LostLaws.{first_last, pair_lost}
use Rattle.shape.specs.MaskEnds.{above_last}
use Rattle.rebuild.specs.LostStrips.{empty_lost}
use Rattle.stripebench.specs.RuinLaws.{strip_ruins, ruins_none, ruins_both}
use Rattle.stripebench.proofs.ruining.ruin.Goals as goal

pub returns-then-mask-eq0 : goal.returns-then-mask-eq0
returns-then-mask-eq0 c =
    let none : c.args.mask ≡ 0 = search rules in
    ruins_none _ _ _ (λ j. ap (λ (m : ℕ). lost_in m j) none ∙ empty_lost j) _

pub fill_strip-requires-clause-strip : goal.fill_strip-requires-clause-strip
fill_strip-requires-clause-strip c =
    let last = above_last c.args.mask c.args.shape.n _ c.requires.lost.0 c.last_lost-b.ensures in
    omega (arith, first_last (lost_in c.args.mask) _ _ c.first_lost-a.ensures c.last_lost-b.ensures)

pub fill_strip-requires-2-clause-strip : goal.fill_strip-requires-2-clause-strip
fill_strip-requires-2-clause-strip c =
    above_last c.args.mask c.args.shape.n _ c.requires.lost.0 c.last_lost-b.ensures

pub returns : goal.returns
returns c =
    let lost = lost_in c.args.mask in
    ruins_both _ _ _ _ lost (pair_lost lost _ _ c.first_lost-a.ensures c.last_lost-b.ensures c.requires.lost.1) _ _ _
    (strip_ruins _ _ _ _ _ c.fill_strip.ensures) (strip_ruins _ _ _ _ _ c.fill_strip-2.ensures)
