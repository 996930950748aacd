-- A block of a sum of ranges under way: the sum after its first j sources. Assumes nothing.
-- s == the buffer    os == the offsets    k == a byte of a range
use Rattle.std.specs.Prelude.{◌≡◌, List, ℕ, ◌+◌, ◌≤◌, ◌<◌, length, get_or}
use Rattle.code.specs.Sum.{sum_to}
use Rattle.element.specs.Gather.{from}

-- byte k of the sum of the first j ranges
abbrev pub partial : List ℕ → List ℕ → ℕ → ℕ → ℕ
partial s os j k = sum_to j (λ i. from s k (get_or os i 0))

-- a holds m bytes of that sum, from byte k on
pub record Sofar (s os : List ℕ) (k m j : ℕ) (a : List ℕ) : Type 0 where
  pub long : length a ≡ 128
  pub within : j ≤ length os
  pub each : (t : ℕ) → t < m → get_or a t 0 ≡ partial s os j (k + t)
