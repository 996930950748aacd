-- The positions of the rows round the circle of n, and the divisors of n whose multiples are positions of rows. Assumes nothing.
use Rattle.std.specs.Prelude.{◌≡◌, ◌⊎◌, ℕ, ◌+◌, ◌-◌, ◌%◌, ◌<◌, ◌≤◌, eqb}
use Rattle.code.specs.Sum.{sum_to, only}

-- the position of row i
unfoldable pub position : ℕ → ℕ → ℕ → ℕ
position r s i = s + (r - 1 - i)

-- what stands at position u
unfoldable pub value : ℕ → ℕ → (ℕ → ℕ) → ℕ → ℕ
value r s y u = sum_to r (λ i. only (eqb (position r s i) u) (y i))

-- no divisor of n up to e has all its multiples below n among the rows' positions
pub record Clear (n r s e : ℕ) : Type 0 where
  pub each : (g : ℕ) → 0 < g → g ≤ e → n % g ≡ 0 → (g < s) ⊎ (g + r + s ≤ n)

-- g divides n, and its multiples below n are all positions of rows
pub record Closed (n r s g : ℕ) : Type 0 where
  pub positive : 0 < g
  pub proper : g < n
  pub divides : n % g ≡ 0
  pub first : s ≤ g
  pub last : n < g + r + s
