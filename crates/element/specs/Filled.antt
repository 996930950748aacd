-- Runs of a list: with what a list begins, and that a run of it was written anew. Assumes nothing.
use Rattle.std.specs.Prelude.{◌≡◌, ◌⊎◌, List, ℕ, ◌+◌, ◌≤◌, ◌<◌, length, get_or}

-- a begins with f 0, .., f (m - 1)
pub record Begins (m : ℕ) (f : ℕ → ℕ) (a : List ℕ) : Type 0 where
  pub each : (k : ℕ) → k < m → get_or a k 0 ≡ f k

-- t is s with f 0, .., f (m - 1) from d on, and nothing else changed
pub record Filled (s : List ℕ) (d m : ℕ) (f : ℕ → ℕ) (t : List ℕ) : Type 0 where
  pub long : length t ≡ length s
  pub inside : (k : ℕ) → k < m → get_or t (d + k) 0 ≡ f k
  pub outside : (i : ℕ) → (i < d) ⊎ (d + m ≤ i) → get_or t i 0 ≡ get_or s i 0
