-- What a walk that has stopped promises of the k steps that it wrote down. Assumes nothing.
-- whole == no lost data element is left
use Rattle.std.specs.Prelude.{ℕ, ◌<◌, ◌≤◌, ◌≡◌, Bool, true, false}
use Rattle.code.specs.Layout.{Layout}
use Rattle.code.specs.Live.{Finished}
use Rattle.code.specs.Steps.{Written, BuiltAt, RightSteps}

-- every lost place is the target of one of the k steps: data, U on the data strips, H on strip n
pub record AllBuilt (L : Layout) (lost : ℕ → Bool) (w : ℕ → Written) (k : ℕ) : Type 0 where
  pub elements : (i j : ℕ) → i < L.r → j < L.n → lost j ≡ true → BuiltAt w k i j
  pub v_parity : (j : ℕ) → j < L.n → lost j ≡ true → BuiltAt w k L.r j
  pub h_parity : lost L.n ≡ true → (i : ℕ) → i < L.r → BuiltAt w k i L.n

-- a lost data element that no step builds
pub record Left (L : Layout) (lost : ℕ → Bool) (w : ℕ → Written) (k : ℕ) : Type 0 where
  pub row : ℕ
  pub strip : ℕ
  pub row_below : row < L.r
  pub strip_below : strip < L.n
  pub is_lost : lost strip ≡ true
  pub unknown : BuiltAt w k row strip → ⊥

pub record Walk (L : Layout) (lost : ℕ → Bool) (w : ℕ → Written) (k : ℕ) (whole : Bool) : Type 0 where
  pub room : k ≤ 66
  pub right : RightSteps L lost w k
  pub finished : Finished L lost (BuiltAt w k)
  pub all : whole ≡ true → AllBuilt L lost w k
  pub some : whole ≡ false → Left L lost w k
