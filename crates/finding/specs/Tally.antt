-- What scrub learns on its way: how many of a run of lines are wrong, and the first that is. Assumes nothing.
use Rattle.std.specs.Prelude.{◌≡◌, Bool, true, false, ℕ, ◌+◌, ◌≤◌, ◌<◌}
use Rattle.code.specs.Below.{count, first}

-- c of the tests 0 .. m - 1 hold, the first of them at f; f is m where none does
pub record Tallied (m : ℕ) (t : ℕ → Bool) (c f : ℕ) : Type 0 where
  pub many : c ≡ count m t
  pub lowest : f ≡ first m t

-- from left on c of the tests hold, the first of them at f
pub record Tallying (m : ℕ) (t : ℕ → Bool) (left c f : ℕ) : Type 0 where
  pub within : left ≤ m
  pub room : c + left ≤ m
  pub rest : c + count left t ≡ count m t
  pub low : f ≤ m
  pub before : (j : ℕ) → left ≤ j → j < f → t j ≡ false
  pub hit : f < m → t f ≡ true
