-- `within` meets its contract: each test passed decides one line of the number. Assumes nothing.
use Rattle.std.proofs.Common.{◌≡◌, ℕ, ◌-◌, false, arith, refl, sym, ◌∙◌}
use Rattle.shape.specs.declared.refusal.Refusal.TheVariants.{Strips, Rows, Shift, Element}
use Rattle.shape.specs.Limits.{outside, limit_number}
use Rattle.shape.specs.LimitsLaws.{outside_false, zero_limits}
use Rattle.shape.specs.WithinLaws.{within_refused, within_inside}
use Rattle.shape.proofs.limits.within.Goals as goal

pub returns-then-outside : goal.returns-then-outside
returns-then-outside c =
    within_refused _ _ _ _ Strips (simp (sym c.outside.ensures ∙ c.if-outside.true))

pub overflow_sub-last : goal.overflow_sub-last
overflow_sub-last c =
    let n = outside_false 3 32 c.args.n (sym c.outside.ensures ∙ c.if-outside.false) in omega arith

pub returns-then-outside-2 : goal.returns-then-outside-2
returns-then-outside-2 c =
    let n = sym c.outside.ensures ∙ c.if-outside.false in
    let r = sym c.outside-2.ensures ∙ c.if-outside-2.true in
    within_refused _ _ _ _ Rows (simp (n, r))

pub returns-then-outside-3 : goal.returns-then-outside-3
returns-then-outside-3 c =
    let n = sym c.outside.ensures ∙ c.if-outside.false in
    let r = sym c.outside-2.ensures ∙ c.if-outside-2.false in
    let s = sym c.outside-3.ensures ∙ c.if-outside-3.true in
    within_refused _ _ _ _ Shift (simp (n, r, s))

pub returns-then-outside-4 : goal.returns-then-outside-4
returns-then-outside-4 c =
    let n = sym c.outside.ensures ∙ c.if-outside.false in
    let r = sym c.outside-2.ensures ∙ c.if-outside-2.false in
    let s = sym c.outside-3.ensures ∙ c.if-outside-3.false in
    let e = sym c.outside-4.ensures ∙ c.if-outside-4.true in
    within_refused _ _ _ _ Element (simp (n, r, s, e))

-- the four tests passed
zero : (n r s e : ℕ) → outside 3 32 n ≡ false → outside 1 32 r ≡ false → outside 1 (n - 1) s ≡ false → outside 1 4096 e ≡ false → limit_number n r s e 0 ≡ 0
zero n r s e a b c d = simp (a, b, c, d)

pub invariant_of-result : goal.invariant_of-result
invariant_of-result c =
    let z = zero c.args.n c.args.r c.args.s c.args.e (sym c.outside.ensures ∙ c.if-outside.false) (sym c.outside-2.ensures ∙ c.if-outside-2.false)
    (sym c.outside-3.ensures ∙ c.if-outside-3.false) (sym c.outside-4.ensures ∙ c.if-outside-4.false) in
    record { limits = zero_limits _ _ _ _ z }

pub returns : goal.returns
returns c =
    let z = zero c.args.n c.args.r c.args.s c.args.e (sym c.outside.ensures ∙ c.if-outside.false) (sym c.outside-2.ensures ∙ c.if-outside-2.false)
    (sym c.outside-3.ensures ∙ c.if-outside-3.false) (sym c.outside-4.ensures ∙ c.if-outside-4.false) in
    within_inside _ _ _ _ _ (record { strips = refl; rows = refl; shift = refl; element = refl }) z
