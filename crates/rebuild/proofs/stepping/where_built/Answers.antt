-- `where_built` meets its contract: each kind is a law of `SteppingLaws`. Assumes nothing.
use Rattle.std.proofs.Common.{ℕ, ◌+◌, ◌≡◌, ◌≢◌, ◌⊎◌, inl, inr, arith, ap}
use Rattle.walker.specs.declared.plan.Kind.{Kind}
use Rattle.walker.specs.declared.plan.Kind.TheVariants.{ByRow, H}
use Rattle.walker.specs.Written.{number, read}
use Rattle.shape.specs.LimitsLaws.{limits_fair}
use Rattle.rebuild.specs.SteppingLaws.{where_at, two_where, four_where, else_where}
use Rattle.rebuild.proofs.stepping.where_built.Goals as goal

-- by its row, or an H: neither by its diagonal nor a U
neither : {k : Kind} → (k ≡ ByRow) ⊎ (k ≡ H) → (number k ≢ 2) × (number k ≢ 4)
neither (inl e) = (λ q. omega (arith, q, ap number e), λ q. omega (arith, q, ap number e))
neither (inr e) = (λ q. omega (arith, q, ap number e), λ q. omega (arith, q, ap number e))

pub returns-in-ByRow : goal.returns-in-ByRow
returns-in-ByRow c =
    let n = neither c.in-ByRow.is in
    where_at c.from-row.ensures c.from-strip.ensures
    (else_where _ (limits_fair _ _ _ _ c.args.shape.limits) (read c.args.step) c.requires.shaped n.0 n.1)

pub returns-in-ByDiagonal : goal.returns-in-ByDiagonal
returns-in-ByDiagonal c =
    rw (c.diagonal.ensures.is, c.from-row.ensures, c.from-strip.ensures)
    (two_where _ (limits_fair _ _ _ _ c.args.shape.limits) (read c.args.step) c.requires.shaped (ap number c.in-ByDiagonal.is)).2

pub returns-in-U : goal.returns-in-U
returns-in-U c =
    where_at (ap (λ (j : ℕ). c.args.shape.r + j) c.from-strip.ensures) c.from-row.ensures
    (four_where _ (limits_fair _ _ _ _ c.args.shape.limits) (read c.args.step) c.requires.shaped (ap number c.in-U.is)).1
