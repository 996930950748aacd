-- The set of lost strips, and the mask that gives it. Assumes nothing.
-- bit_at x j == bit j of x    lost_in x == the lost set of the mask x
-- above_test x n == the test of a one above bit n
use Rattle.std.specs.Prelude.{◌≡◌, Bool, true, false, ℕ, ◌+◌, ◌/◌, ◌%◌, ◌^◌, ◌<◌, leb, eqb}

abbrev pub bit_at : ℕ → ℕ → ℕ
bit_at x j = x / 2 ^ j % 2

abbrev pub lost_in : ℕ → ℕ → Bool
lost_in x j = eqb (bit_at x j) 1

-- a number has a one above bit n exactly if it is at least 2 ^ (n + 1) (above_exactly of MaskEnds)
abbrev pub above_test : ℕ → ℕ → Bool
above_test x n = leb (2 ^ (n + 1)) x

-- some strip above n is lost
pub record SomeAbove (lost : ℕ → Bool) (n : ℕ) : Type 0 where
  pub strip : ℕ
  pub higher : n < strip
  pub is_lost : lost strip ≡ true

-- a is the first lost strip
pub record FirstLost (lost : ℕ → Bool) (a : ℕ) : Type 0 where
  pub within : a < 64
  pub is_lost : lost a ≡ true
  pub lower : (j : ℕ) → j < a → lost j ≡ false

-- b is the last lost strip
pub record LastLost (lost : ℕ → Bool) (b : ℕ) : Type 0 where
  pub within : b < 64
  pub is_lost : lost b ≡ true
  pub upper : (j : ℕ) → b < j → lost j ≡ false
