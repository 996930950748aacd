-- Steps as they are written down, (kind, row, strip), and what makes one right. Assumes nothing.
-- kind 1: a data element by its row    kind 2: a data element by its diagonal    kind 3: H(row), on strip n    kind 4: the U that the strip stores, in row r
-- w u == step u as it is written; the target of every kind is the place of its row and strip
use Rattle.std.specs.Prelude.{ℕ, ◌+◌, ◌<◌, ◌≡◌, Bool, true, eqb}
use Rattle.code.specs.Sum.{pick}
use Rattle.code.specs.Plan.{Step}
use Rattle.code.specs.Layout.{Layout, X}
use Rattle.code.specs.Live.{row, diagonal, Known, Lone}

pub record Written : Type 0 where
  pub kind : ℕ
  pub row : ℕ
  pub strip : ℕ

-- the line of a written step: rows are the lines 0 .. r - 1, diagonal d is the line r + d
abbrev pub line_of : Layout → Written → ℕ
line_of L x = pick (eqb x.kind 2) (L.r + L.diagonal x.row x.strip) (pick (eqb x.kind 4) (L.r + L.owner x.strip) x.row)

-- the written steps as a plan of the code
abbrev pub plan_of : Layout → (ℕ → Written) → ℕ → Step
plan_of L w u = record { line = line_of L (w u); target = X L (w u).row (w u).strip }

-- row i of strip j is the target of one of the first k steps
pub record BuiltAt (w : ℕ → Written) (k i j : ℕ) : Type 0 where
  pub step : ℕ
  pub early : step < k
  pub its_row : (w step).row ≡ i
  pub its_strip : (w step).strip ≡ j

-- the step is right once B is built: its target is lost and new, and every other element of its line is known
pub data RightStep (L : Layout) (lost : ℕ → Bool) (B : ℕ → ℕ → Type 0) (x : Written) : Type 0 where
  by_row : x.kind ≡ 1 → Lone L lost B (row x.row) x.row x.strip → RightStep L lost B x
  by_diagonal : x.kind ≡ 2 → Lone L lost B (diagonal (L.diagonal x.row x.strip)) x.row x.strip → RightStep L lost B x
  of_row : x.kind ≡ 3 → x.row < L.r → x.strip ≡ L.n → lost L.n ≡ true → (B x.row L.n → ⊥)
      → ((j : ℕ) → j < L.n → Known lost B x.row j) → RightStep L lost B x
  of_strip : x.kind ≡ 4 → x.row ≡ L.r → x.strip < L.n → lost x.strip ≡ true → (B L.r x.strip → ⊥)
      → ((i : ℕ) → i < L.r → Known lost B i (L.meets i (L.owner x.strip))) → RightStep L lost B x

-- each of the k steps is right after the steps before it
pub record RightSteps (L : Layout) (lost : ℕ → Bool) (w : ℕ → Written) (k : ℕ) : Type 0 where
  pub right : (u : ℕ) → u < k → RightStep L lost (BuiltAt w u) (w u)
