-- `mend` meets its contract: an empty mask needs a test alone, and another's first and last lost strip are the pair that it loses. Assumes nothing.
use Rattle.std.proofs.Common.{rules, arith, ℕ, sym, ap, ◌∙◌}
use Rattle.shape.specs.Mask.{lost_in}
use Rattle.shape.specs.LostLaws.{first_last, pair_lost}
use Rattle.shape.specs.MaskEnds.{above_last}
use Rattle.shape.specs.LimitsLaws.{limits_fair}
use Rattle.rebuild.specs.LostStrips.{empty_lost}
use Rattle.rebuild.proofs.PlanRunLaws.{no_marks}
use Rattle.rebuild.proofs.MendLaws.{mends_lost, mends_none}
use Rattle.rebuild.proofs.mending.mend.Goals as goal

pub returns-then-mask-eq0 : goal.returns-then-mask-eq0
returns-then-mask-eq0 c =
    mends_none _ (limits_fair c.args.shape.n c.args.shape.r c.args.shape.s _ c.args.shape.limits) _ _
    (λ j. ap (λ (m : ℕ). lost_in m j) ((search rules)) ∙ empty_lost j) c.args.stripe.now _
    (record { size = c.requires.size; bytes = λ v lv. search rules }) (λ t. no_marks 64 t) _ c.unused_zero.ensures

pub mend_pair-requires : goal.mend_pair-requires
mend_pair-requires c =
    let last = c.last_lost-b.ensures in
    let ordered = first_last (lost_in c.args.mask) _ _ c.first_lost-a.ensures last in
    let within = above_last c.args.mask c.args.shape.n _ c.requires.lost.0 last in record { good = c.requires.good; strips = (omega arith, omega arith); size = c.requires.size }

pub returns : goal.returns
returns c =
    let first = c.first_lost-a.ensures in
    let last = c.last_lost-b.ensures in
    mends_lost _ _ _ (lost_in c.args.mask) (λ j. sym (pair_lost (lost_in c.args.mask) _ _ first last c.requires.lost.1 j)) _ _ _ c.mend_pair.ensures
