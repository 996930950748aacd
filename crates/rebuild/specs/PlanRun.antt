-- What is left once a right and complete plan has run, whichever it was: a plan that has run, and what mend leaves. Assumes nothing.
-- before, after == the stripe before and after the run    used == the marks of the lines that it used
use Rattle.std.specs.Prelude.{ℕ, ◌≡◌, Bool, true, false, List}
use Rattle.code.specs.Layout.{Layout}
use Rattle.code.specs.Plan.{Step}
use Rattle.rebuild.specs.Rebuild.{Mended, Cleared}
use Rattle.rebuild.specs.RunTo.{RunTo}
use Rattle.rebuild.specs.WholePlan.{Planned}
use Rattle.rebuild.specs.Marks.{Marked}

pub record PlanRun (L : Layout) (e : ℕ) (lost : ℕ → Bool) (before after : List ℕ) (used : List Bool) : Type 0 where
  pub plan : ℕ → Step
  pub count : ℕ
  pub planned : Planned L lost plan count
  pub run : RunTo L e plan count before after
  pub marks : Marked plan count used

-- what mend leaves: the stripe mended, or the lost strips cleared
pub record Mends (L : Layout) (e : ℕ) (lost : ℕ → Bool) (before after : List ℕ) (x : Bool) : Type 0 where
  pub mended : x ≡ true → Mended L e lost before after
  pub cleared : x ≡ false → Cleared L e lost before after
