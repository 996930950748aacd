-- The shift family: n strips, r rows, shift s. Its diagonals are 01's, its parities those of document 000, formula 3.3. Assumes nothing.
use Rattle.std.specs.Prelude.{◌≡◌, ℕ, ◌+◌, ◌-◌, ◌*◌, ◌%◌, ◌<◌}
use Rattle.code.specs.Sum.{sum_to}
use Rattle.code.specs.Layout.{Layout, X, H, U}

-- (j + i - (r - 1) - s) mod n, with a multiple of n in front that keeps the difference from falling below 0
unfoldable pub diagonal : ℕ → ℕ → ℕ → ℕ → ℕ → ℕ
diagonal n r s i j = (n * (r - 1 + s) + j + i - (r - 1 + s)) % n

-- the strip where row i meets diagonal d: (d + r - 1 - i + s) mod n
unfoldable pub meets : ℕ → ℕ → ℕ → ℕ → ℕ → ℕ
meets n r s i d = (d + (r - 1 - i) + s) % n

-- U(d) stands on strip d
abbrev pub shift : ℕ → ℕ → ℕ → Layout
shift n r s = record { n = n; r = r; diagonal = diagonal n r s; meets = meets n r s; home = λ d. d; owner = λ j. j }

-- as printed: H by formula 2.2 of 000; U by formula 2 of 002 with its upper limit r - 1, which is formula 3.3 of 000 (and 3.1 where s = 1)
pub record Printed (n r s : ℕ) (f : ℕ → ℕ) : Type 0 where
  pub h : (i : ℕ) → i < r → f (H (shift n r s) i) ≡ sum_to n (λ j. f (X (shift n r s) i j))
  pub u : (j : ℕ) → j < n → f (U (shift n r s) j) ≡ sum_to r (λ k. f (X (shift n r s) (r - 1 - k) ((j + k + s) % n)))

-- d is (j + i - (r - 1) - s) mod n
pub record Formula (n r s i j d : ℕ) : Type 0 where
  pub below : d < n
  pub turned : (d + (r - 1) + s) % n ≡ (j + i) % n
