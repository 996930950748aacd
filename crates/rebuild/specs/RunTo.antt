-- A plan run on a buffer: each step sets its target in every byte; and what the surplus lines must say. Assumes nothing.
-- plan u == step u: a line and its target    k == how many steps
use Rattle.std.specs.Prelude.{◌≡◌, List, ℕ, suc, ◌+◌, ◌<◌, length}
use Rattle.code.specs.Sum.{sum}
use Rattle.code.specs.Place.{at}
use Rattle.code.specs.Plan.{Step}
use Rattle.code.specs.Run.{Ran}
use Rattle.code.specs.Unused.{Unused}
use Rattle.code.specs.Layout.{Layout, line}

-- after is before with the target of step x set: nothing else changes, and the step's line sums to zero in every byte
pub record StepSet (L : Layout) (e : ℕ) (x : Step) (before after : List ℕ) : Type 0 where
  pub size : length after ≡ length before
  pub each : (i : ℕ) → i < e → Ran (line L x.line) x.target (at before e i) (at after e i)

-- the first k steps take before to after; state u is the buffer before step u
pub record RunTo (L : Layout) (e : ℕ) (plan : ℕ → Step) (k : ℕ) (before after : List ℕ) : Type 0 where
  pub state : ℕ → List ℕ
  pub first : state 0 ≡ before
  pub last : state k ≡ after
  pub each : (u : ℕ) → u < k → StepSet L e (plan u) (state u) (state (suc u))

-- every line that no step used sums to zero in every byte
pub record SurplusZero (L : Layout) (e : ℕ) (plan : ℕ → Step) (k : ℕ) (s : List ℕ) : Type 0 where
  pub zero : (t : ℕ) → t < L.r + L.n → Unused plan k t → (i : ℕ) → i < e → sum (at s e i) (line L t) ≡ 0
