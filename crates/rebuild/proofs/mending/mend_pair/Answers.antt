-- `mend_pair` meets its contract: the plan has run, and either every line without a mark sums to zero, or the two strips are cleared. Assumes nothing.
use Rattle.std.proofs.Common.{rules, arith, sym, ◌∙◌}
use Rattle.code.specs.SumLaws.{clash}
use Rattle.shape.specs.LimitsLaws.{limits_fair}
use Rattle.rebuild.proofs.PlanRunLaws.{ran_size, ran_mended, ran_cleared}
use Rattle.rebuild.proofs.MendLaws.{both_kept, both_zero}
use Rattle.rebuild.proofs.mending.mend_pair.Goals as goal

pub returns-then-unused_zero : goal.returns-then-unused_zero
returns-then-unused_zero c =
    record {
      mended = λ z. ran_mended _ (limits_fair _ _ _ _ c.args.shape.limits) _ _ _ _ _ c.run-used.ensures (record { size = c.requires.size; bytes = λ v lv. search arith })
          (c.unused_zero.ensures.passed (search rules));
      cleared = λ z. clash (sym z);
    }

pub fill_strip-requires : goal.fill_strip-requires
fill_strip-requires c =
    record { strip = omega arith; size = ran_size _ (limits_fair _ _ _ _ c.args.shape.limits) _ _ _ _ _ c.run-used.ensures ∙ c.requires.size }

pub fill_strip-requires-2 : goal.fill_strip-requires-2
fill_strip-requires-2 c =
    record { strip = omega arith; size = c.fill_strip.ensures.size ∙ ran_size _ (limits_fair _ _ _ _ c.args.shape.limits) _ _ _ _ _ c.run-used.ensures ∙ c.requires.size }

pub returns : goal.returns
returns c =
    let failed = c.unused_zero.ensures.failed (search rules) in
    let first = c.fill_strip.ensures in
    let second = c.fill_strip-2.ensures in
    record {
      mended = λ z. clash z;
      cleared = λ z. ran_cleared _ (limits_fair _ _ _ _ c.args.shape.limits) _ _ _ _ _ c.run-used.ensures failed.t failed.byte failed.is_line failed.in_element failed.wrong _
          (both_kept _ _ _ _ _ _ _ first second) (both_zero _ _ _ _ _ _ _ first second);
    }
