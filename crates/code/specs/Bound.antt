-- The published bound (000, Theorem 4; 002, Theorem 2), and the name of the first failing pair. Assumes nothing.
-- pr n == the smallest prime divisor of n    q n == n / pr n
use Rattle.std.specs.Prelude.{ℕ, zero, suc, ◌+◌, ◌-◌, ◌/◌, ◌%◌, ◌<◌, ◌≤◌, ◌≡◌, ◌⊎◌, eqb}
use Rattle.code.specs.Sum.{pick}
use Rattle.code.specs.Code.{Fails, Decided}
use Rattle.code.specs.Layout.{Layout, code, pair}

-- the first of d, d + 1, .., of at most f of them, that divides n; n where none does
unfoldable pub searched : ℕ → ℕ → ℕ → ℕ
searched zero d n = n
searched (suc f) d n = pick (eqb (n % d) 0) d (searched f (d + 1) n)

-- the smallest divisor of n above 1, which is prime
unfoldable pub pr : ℕ → ℕ
pr n = searched n 2 n

unfoldable pub q : ℕ → ℕ
q n = n / pr n

-- r at most n - s if s > q, else at most n - q - s; where that is 0 or less no r serves
pub data Good (n r s : ℕ) : Type 0 where
  wide : q n < s → r ≤ n - s → Good n r s
  narrow : s ≤ q n → r + q n + s ≤ n → Good n r s

-- a pair before another, by lower strip, then by upper strip
abbrev pub Before : ℕ → ℕ → ℕ → ℕ → Type 0
Before a b c d = (a < c) ⊎ ((a ≡ c) × (b < d))

-- (a, b) is the first pair of the strips 0 .. n that fails
pub record FirstPair (L : Layout) (a b : ℕ) : Type 0 where
  pub order : a < b
  pub within : b ≤ L.n
  pub fails : Fails (code L) (pair a b)
  pub before : (c d : ℕ) → c < d → d ≤ L.n → Before c d a b → Decided (code L) (pair c d)

-- of two pairs one comes first, or they are equal
pub data Order (a b c d : ℕ) : Type 0 where
  first : Before a b c d → Order a b c d
  equal : a ≡ c → b ≡ d → Order a b c d
  second : Before c d a b → Order a b c d
