-- What scrub finds is small enough for a byte each: the counts, the row, and the diagonal or the strip. Assumes nothing.
use Rattle.std.specs.Prelude.{◌≡◌, Bool, true, false, List, ℕ, ◌+◌, ◌-◌, ◌≤◌, ◌<◌, eqb, length, Err, Ok}
use Rattle.std.proofs.Common.{sym, ap, ◌∙◌, subst, mod-lt, arith}
use Rattle.code.specs.Sum.{pick}
use Rattle.code.specs.Below.{count, first}
use Rattle.code.specs.BelowLaws.{first_most}
use Rattle.code.specs.CountLaws.{count_most}
use Rattle.code.specs.Shift.{shift, meets}
use Rattle.shape.specs.declared.refusal.Refusal.{Refusal}
use Rattle.shape.specs.Refusal.{lower_of, upper_of}
use Rattle.shape.specs.Limits.{Limits}
use Rattle.shape.specs.JudgedCall.{named_small}
use Rattle.finding.specs.declared.Finding.{Finding}
use Rattle.finding.specs.declared.Finding.TheVariants as finding
use Rattle.finding.specs.declared.Counts.{Counts}
use Rattle.finding.specs.Found.{wrong_row, wrong_diagonal, found_of, found}
use Rattle.stripe.specs.Scrub.{scrubbed_number, Scrubs, Scrubbed}
use Rattle.stripe.specs.OpenedLaws.{call_zero}
use Rattle.fiddlefern.specs.Packed.{finding_values, SmallFinding}

-- a finding's number
pub finding_most : (f : Finding) → (finding_values f).0 ≤ 4
finding_most finding.Sound = omega arith
finding_most (finding.H i) = omega arith
finding_most (finding.U d) = omega arith
finding_most (finding.Element i j) = omega arith
finding_most finding.Several = omega arith

-- whichever of the five it is
any_small : (i d j : ℕ) (a0 a1 b0 b1 : Bool) → i ≤ 32 → d ≤ 32 → j ≤ 32
    → SmallFinding
    (pick a0 (pick b0 finding.Sound (pick b1 (finding.U d) finding.Several))
    (pick a1 (pick b0 (finding.H i) (pick b1 (finding.Element i j) finding.Several)) finding.Several))
any_small i d j true a1 true b1 p q w = record { row = omega arith; other = omega arith }
any_small i d j true a1 false true p q w = record { row = omega arith; other = q }
any_small i d j true a1 false false p q w = record { row = omega arith; other = omega arith }
any_small i d j false true true b1 p q w = record { row = p; other = omega arith }
any_small i d j false true false true p q w = record { row = p; other = w }
any_small i d j false true false false p q w = record { row = omega arith; other = omega arith }
any_small i d j false false b0 b1 p q w = record { row = omega arith; other = omega arith }

meets_small : (n r s i d : ℕ) → 3 ≤ n → n ≤ 32 → meets n r s i d ≤ 32
unfolding meets
meets_small n r s i d l h =
    let some : 0 < n = omega arith in
    let below = mod-lt (d + (r - 1 - i) + s) some in
    omega arith

found_small : (n r s e : ℕ) (b : List ℕ) → Limits n r s e → SmallFinding (found (shift n r s) e b)
unfolding found_of
found_small n r s e b l =
    any_small i d (meets n r s i d) (eqb rows 0) (eqb rows 1) (eqb diagonals 0) (eqb diagonals 1)
    (omega (arith, first_most r (wrong_row (shift n r s) e b), l.r_high))
    (omega (arith, first_most n (wrong_diagonal (shift n r s) e b), l.n_high))
    (meets_small n r s i d l.n_low l.n_high)
  where
    rows : ℕ
    rows = count r (wrong_row (shift n r s) e b)

    diagonals : ℕ
    diagonals = count n (wrong_diagonal (shift n r s) e b)

    i : ℕ
    i = first r (wrong_row (shift n r s) e b)

    d : ℕ
    d = first n (wrong_diagonal (shift n r s) e b)

module _ (n r s e : ℕ) (b : List ℕ) (x : Scrubbed) (c : Scrubs n r s e b x) where
  module _ (d : Counts) (w : x ≡ Ok d) where
    limits : Limits n r s e
    limits = (call_zero n r s e (length b) 0 (sym c.number ∙ ap scrubbed_number w)).limits

    pub rows_small : d.rows ≤ 32
    rows_small = let h = count_most r (wrong_row (shift n r s) e b) in omega (arith, (c.finds d w).rows_are, limits.r_high)

    pub diagonals_small : d.diagonals ≤ 32
    diagonals_small = let h = count_most n (wrong_diagonal (shift n r s) e b) in omega (arith, (c.finds d w).diagonals_are, limits.n_high)

    pub finding_small : SmallFinding d.finding
    finding_small = subst SmallFinding (sym (c.finds d w).finding_is) (found_small n r s e b limits)

  pub refusal_small : (y : Refusal) → x ≡ Err y → (lower_of y ≤ 32) × (upper_of y ≤ 32)
  refusal_small y w = named_small n r s e _ y (sym (ap scrubbed_number w) ∙ c.number) (c.named y w)
