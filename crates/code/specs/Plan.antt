-- Plans: steps (line, target), and what makes a plan right and complete. Assumes nothing.
-- plan u == step u of a plan; k == how many steps it has; B p == place p is built
use Rattle.std.specs.Prelude.{ℕ, ◌<◌, ◌≡◌, ◌≢◌, Bool, true, false, length, get_or}
use Rattle.code.specs.Code.{Code}

-- the target becomes the sum of the rest of the line
pub record Step : Type 0 where
  pub line : ℕ
  pub target : ℕ

-- place p is the target of one of the first k steps
pub record Built (plan : ℕ → Step) (k p : ℕ) : Type 0 where
  pub step : ℕ
  pub early : step < k
  pub it : (plan step).target ≡ p

-- place p is at hand: it survives, or it is built
pub data Given (C : Code) (lost : ℕ → Bool) (B : ℕ → Type 0) (p : ℕ) : Type 0 where
  survives : lost (C.strip p) ≡ false → Given C lost B p
  built : B p → Given C lost B p

-- line t gives place p: p is lost and not built, it stands on the line, and every other place of the line is at hand
pub record Gives (C : Code) (lost : ℕ → Bool) (B : ℕ → Type 0) (t p : ℕ) : Type 0 where
  pub is_line : t < C.lines
  pub index : ℕ
  pub within : index < length (C.line t)
  pub on : get_or (C.line t) index 0 ≡ p
  pub is_lost : lost (C.strip p) ≡ true
  pub new : B p → ⊥
  pub rest : (v : ℕ) → v < length (C.line t) → v ≢ index → Given C lost B (get_or (C.line t) v 0)

-- each step is right after the steps before it
pub record Right (C : Code) (lost : ℕ → Bool) (plan : ℕ → Step) (k : ℕ) : Type 0 where
  pub step : (u : ℕ) → u < k → Gives C lost (Built plan u) (plan u).line (plan u).target

-- every lost place is built
pub record Complete (C : Code) (lost : ℕ → Bool) (plan : ℕ → Step) (k : ℕ) : Type 0 where
  pub all : (p : ℕ) → p < C.places → lost (C.strip p) ≡ true → Built plan k p
