-- `rebuild::rebuild` meets its contract: see `Call`. Assumes nothing.
use Rattle.std.proofs.Common.{rules, arith, ◌≤◌, ◌≡◌, sym, ◌∙◌, false}
use Rattle.code.specs.Below.{count}
use Rattle.shape.specs.Mask.{lost_in, above_test}
use Rattle.rebuild.proofs.Call.{rebuild_refused, mask_refused, many_refused, shape_good, shape_lost, shape_size, mend_done, mend_none}
use Rattle.rebuild.proofs.rebuild.Goals as goal

pub returns-in_default : goal.returns-in_default
returns-in_default c =
    rebuild_refused _ _ _ _ _ c.args.stripe.now _ c.opened-judged.ensures _ c.unwrap_err.ensures

pub above-requires : goal.above-requires
above-requires c =
    let l = (c.opened-judged.ensures.opened _ _ c.in-Ok.is).limits in
    omega (arith, l.n_high, l.r_high)

pub returns-then-above : goal.returns-then-above
returns-then-above c =
    mask_refused _ _ _ _ _ c.args.stripe.now _ c.opened-judged.ensures _ _ c.in-Ok.is (sym c.above.ensures ∙ search rules)

pub returns-then-lost_count-gt2 : goal.returns-then-lost_count-gt2
returns-then-lost_count-gt2 c =
    many_refused _ _ _ _ _ c.args.stripe.now _ c.opened-judged.ensures _ _ c.in-Ok.is (sym c.above.ensures ∙ search rules) (omega (arith, c.lost_count.ensures.is))

pub mend-requires : goal.mend-requires
mend-requires c =
    let none : above_test c.args.mask c.args.n ≡ false = sym c.above.ensures ∙ search rules in
    let few : count 64 (lost_in c.args.mask) ≤ 2 = omega (arith, c.lost_count.ensures.is) in
    record {
      good = (shape_good _ _ _ _ _ c.args.stripe.now _ c.opened-judged.ensures _ _ c.in-Ok.is none few).1;
      lost = shape_lost _ _ _ _ _ c.args.stripe.now _ c.opened-judged.ensures _ _ c.in-Ok.is none few;
      size = shape_size _ _ _ _ _ c.args.stripe.now _ c.opened-judged.ensures _ _ c.in-Ok.is none few;
    }

pub returns-then-mend : goal.returns-then-mend
returns-then-mend c =
    let none : above_test c.args.mask c.args.n ≡ false = sym c.above.ensures ∙ search rules in
    let few : count 64 (lost_in c.args.mask) ≤ 2 = omega (arith, c.lost_count.ensures.is) in
    mend_done _ _ _ _ _ c.args.stripe.now _ c.opened-judged.ensures _ _ c.in-Ok.is none few _ _ c.mend.ensures (search rules)

pub returns : goal.returns
returns c =
    let none : above_test c.args.mask c.args.n ≡ false = sym c.above.ensures ∙ search rules in
    let few : count 64 (lost_in c.args.mask) ≤ 2 = omega (arith, c.lost_count.ensures.is) in
    mend_none _ _ _ _ _ c.args.stripe.now _ c.opened-judged.ensures _ _ c.in-Ok.is none few _ _ c.mend.ensures (search rules)
