-- The limits of a shape's four numbers, and the refusals 1 to 4. Assumes nothing.
-- outside low high x == the test of x outside low..high
-- limit_number n r s e rest == the first of the numbers 1 to 4 whose line holds; rest where none does
use Rattle.std.specs.Prelude.{Bool, true, ◌⊎◌, ℕ, ◌-◌, ◌≤◌, ◌<◌, ltb}
use Rattle.code.specs.Sum.{pick}

-- n from 3 to 32; r from 1 to 32; s from 1 to n-1; e from 1 to 4096
pub record Limits (n r s e : ℕ) : Type 0 where
  pub n_low : 3 ≤ n
  pub n_high : n ≤ 32
  pub r_low : 1 ≤ r
  pub r_high : r ≤ 32
  pub s_low : 1 ≤ s
  pub s_high : s < n
  pub e_low : 1 ≤ e
  pub e_high : e ≤ 4096

abbrev pub outside : ℕ → ℕ → ℕ → Bool
outside low high x = pick (ltb x low) true (ltb high x)

abbrev pub limit_number : ℕ → ℕ → ℕ → ℕ → ℕ → ℕ
limit_number n r s e rest =
    pick (outside 3 32 n) 1
    (pick (outside 1 32 r) 2
    (pick (outside 1 (n - 1) s) 3
    (pick (outside 1 4096 e) 4 rest)))

-- x is not among low..high
abbrev pub Outside : ℕ → ℕ → ℕ → Type 0
Outside low high x = (x < low) ⊎ (high < x)

-- which of the lines 1 to 4 holds first, in 01's words; with rest where all numbers are inside
pub data FirstOutside (n r s e rest : ℕ) : ℕ → Type 0 where
  strips : Outside 3 32 n → FirstOutside n r s e rest 1
  rows : 3 ≤ n → n ≤ 32 → Outside 1 32 r → FirstOutside n r s e rest 2
  shift : 3 ≤ n → n ≤ 32 → 1 ≤ r → r ≤ 32 → Outside 1 (n - 1) s → FirstOutside n r s e rest 3
  element : 3 ≤ n → n ≤ 32 → 1 ≤ r → r ≤ 32 → 1 ≤ s → s < n → Outside 1 4096 e → FirstOutside n r s e rest 4
  none : Limits n r s e → FirstOutside n r s e rest rest
