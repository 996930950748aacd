-- Tests on the numbers below m: whether one holds, how many hold, and the first that does. Assumes nothing.
-- some m t == t holds at some number below m    count m t == at how many of them    first m t == the first of them, else m
use Rattle.std.specs.Prelude.{Bool, true, false, ℕ, zero, suc, ◌+◌}
use Rattle.code.specs.Sum.{pick, only}

unfoldable pub some : ℕ → (ℕ → Bool) → Bool
some zero t = false
some (suc m) t = pick (t m) true (some m t)

unfoldable pub count : ℕ → (ℕ → Bool) → ℕ
count zero t = 0
count (suc m) t = count m t + only (t m) 1

unfoldable pub first : ℕ → (ℕ → Bool) → ℕ
first zero t = 0
first (suc m) t = pick (t 0) 0 (suc (first m (λ j. t (suc j))))
