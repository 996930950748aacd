-- `fiddlefern::packing::packed_count` meets its contract: the five numbers are small. Assumes nothing.
use Rattle.std.proofs.Common.{◌≡◌, ℕ, ap, arith}
use Rattle.fiddlefern.specs.ScrubSmall.{finding_most}
use Rattle.fiddlefern.proofs.packing.packed_count.Goals as goal

-- the three numbers are the finding's
values_are : (q z : ℕ × ℕ × ℕ) → q ≡ z → (q.0 ≡ z.0) × (q.1 ≡ z.1) × (q.2 ≡ z.2)
values_are q z e = (ap (λ (v : ℕ × ℕ × ℕ). v.0) e, ap (λ (v : ℕ × ℕ × ℕ). v.1) e, ap (λ (v : ℕ × ℕ × ℕ). v.2) e)

pub overflow_mul-result-3 : goal.overflow_mul-result-3
overflow_mul-result-3 c =
    omega (arith, finding_most c.args.c.finding, values_are _ _ c.values-number.ensures)

pub overflow_add-result-2 : goal.overflow_add-result-2
overflow_add-result-2 c =
    omega (arith, finding_most c.args.c.finding, values_are _ _ c.values-number.ensures)

pub overflow_add-result-3 : goal.overflow_add-result-3
overflow_add-result-3 c =
    omega (arith, finding_most c.args.c.finding, values_are _ _ c.values-number.ensures, c.requires.finding.row)

pub overflow_add-result-4 : goal.overflow_add-result-4
overflow_add-result-4 c =
    omega (arith, finding_most c.args.c.finding, values_are _ _ c.values-number.ensures, c.requires.finding.row, c.requires.finding.other)
