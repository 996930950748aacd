-- A run of written steps under way: the stripe so far, and the marks of the lines used. Assumes nothing.
-- w u == step u as it is written    k == how many have run    before, now == the stripe at first and now
use Rattle.std.specs.Prelude.{ℕ, ◌≡◌, Bool, List, length}
use Rattle.code.specs.Layout.{Layout}
use Rattle.code.specs.Steps.{Written, plan_of}
use Rattle.rebuild.specs.RunTo.{RunTo}
use Rattle.rebuild.specs.Marks.{Marked}

pub record Running (L : Layout) (e : ℕ) (w : ℕ → Written) (k : ℕ) (before now : List ℕ) (used : List Bool) : Type 0 where
  pub run : RunTo L e (plan_of L w) k before now
  pub size : length now ≡ length before
  pub marks : Marked (plan_of L w) k used
  pub room : length used ≡ 64
