-- The end of a walk that built all lost data: a step for every lost U by its diagonal, and for every lost H by its row. Assumes nothing.
-- s, t == the steps of the plan before and after    k, e == how many are written down
use Rattle.std.specs.Prelude.{ℕ, ◌+◌, ◌<◌, ◌≤◌, ◌≡◌, List, Bool, true}
use Rattle.code.specs.Layout.{Layout, Fair, pair}
use Rattle.code.specs.Drawn.{drawn}
use Rattle.code.specs.Steps.{BuiltAt, RightSteps}
use Rattle.walker.specs.declared.plan.Step.{Step}
use Rattle.walker.specs.Written.{written}

-- all lost data is built, of the lost U exactly those on the strips before u, of the lost H exactly those of the rows before h
pub record Closing (L : Layout) (lost : ℕ → Bool) (s : List Step) (k u h : ℕ) : Type 0 where
  pub right : RightSteps L lost (written s) k
  pub elements : (i j : ℕ) → i < L.r → j < L.n → lost j ≡ true → BuiltAt (written s) k i j
  pub v_built : (j : ℕ) → j < u → lost j ≡ true → BuiltAt (written s) k L.r j
  pub v_new : (j : ℕ) → u ≤ j → j < L.n → BuiltAt (written s) k L.r j → ⊥
  pub h_built : lost L.n ≡ true → (i : ℕ) → i < h → BuiltAt (written s) k i L.n
  pub h_new : (i : ℕ) → h ≤ i → i < L.r → BuiltAt (written s) k i L.n → ⊥

-- the lost U were written down, whatever the map
pub record BuiltV (n r a b : ℕ) (s : List Step) (k : ℕ) (t : List Step) (e : ℕ) : Type 0 where
  pub room : e ≤ k + 2
  pub any : (m : List (List ℕ)) (h : List ℕ) → Fair (drawn m h n r) → Closing (drawn m h n r) (pair a b) s k 0 0 → Closing (drawn m h n r) (pair a b) t e n 0

-- the H were written down where strip n is lost, whatever the map
pub record BuiltH (n r b : ℕ) (s : List Step) (k : ℕ) (t : List Step) (e : ℕ) : Type 0 where
  pub any : (m : List (List ℕ)) (h : List ℕ) (a : ℕ) → a ≤ b → Closing (drawn m h n r) (pair a b) s k n 0 → Closing (drawn m h n r) (pair a b) t e n r

-- the H of the rows before i were written down, whatever the map
pub record WrittenH (n r b : ℕ) (s : List Step) (k : ℕ) (t : List Step) (e i : ℕ) : Type 0 where
  pub count : e ≡ k + i
  pub any : (m : List (List ℕ)) (h : List ℕ) (a : ℕ) → Closing (drawn m h n r) (pair a b) s k n 0 → Closing (drawn m h n r) (pair a b) t e n i
