-- Sums of ranges of bytes of one buffer, by the offsets where the ranges start: what gather and is_zero ask and promise. Assumes nothing.
-- s == the buffer    os == the offsets    e == the bytes of a range    k == a byte of a range
use Rattle.std.specs.Prelude.{◌≡◌, Bool, true, ◌⊎◌, List, ℕ, ◌+◌, ◌≤◌, ◌<◌, length, get_or}
use Rattle.code.specs.Sum.{sum}
use Rattle.element.specs.Filled.{Filled}

-- byte k of the range that starts at o
abbrev pub from : List ℕ → ℕ → ℕ → ℕ
from s k o = get_or s (o + k) 0

-- byte k of the sum of the ranges at os
abbrev pub total : List ℕ → List ℕ → ℕ → ℕ
total s os k = sum (from s k) os

-- every range of e bytes at os lies inside s
pub record Fits (s : List ℕ) (e : ℕ) (os : List ℕ) : Type 0 where
  pub each : (i : ℕ) → i < length os → get_or os i 0 + e ≤ length s

-- no range of e bytes at os touches the e bytes from d on
pub record Apart (e d : ℕ) (os : List ℕ) : Type 0 where
  pub each : (i : ℕ) → i < length os → (get_or os i 0 + e ≤ d) ⊎ (d + e ≤ get_or os i 0)

-- t is s with the sum of the ranges at os, as they were, in the e bytes from d on
abbrev pub Gathered : List ℕ → ℕ → ℕ → List ℕ → List ℕ → Type 0
Gathered s e d os t = Filled s d e (total s os) t

-- f 0, .., f (e - 1) are zero
pub record Zero (e : ℕ) (f : ℕ → ℕ) : Type 0 where
  pub each : (k : ℕ) → k < e → f k ≡ 0

-- r is true exactly when f 0, .., f (e - 1) are zero
pub record AllZero (e : ℕ) (f : ℕ → ℕ) (r : Bool) : Type 0 where
  pub yes : r ≡ true → Zero e f
  pub no : Zero e f → r ≡ true

-- r is true exactly when the sum of the ranges at os is zero in each of its e bytes
abbrev pub Tells : List ℕ → ℕ → List ℕ → Bool → Type 0
Tells s e os r = AllZero e (total s os) r
