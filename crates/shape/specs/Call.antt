-- What every call on a stripe answers: the first number whose line holds, in 01's order, and the pair that comes with 5. Assumes nothing.
-- bytes_of n r e == the bytes of a stripe    answer_number x == the number of the answer x
-- call_number n r s e len last == the first of the numbers 1 to 6 whose line holds for a buffer of len bytes; last where none does
use Rattle.std.specs.Prelude.{◌≡◌, ℕ, ◌+◌, ◌*◌, eqb, Result, Ok, Err}
use Rattle.code.specs.Sum.{pick}
use Rattle.code.specs.Shift.{shift}
use Rattle.code.specs.Bound.{FirstPair}
use Rattle.shape.specs.declared.refusal.Refusal.{Refusal}
use Rattle.shape.specs.declared.refusal.Refusal.TheVariants.{Weak}
use Rattle.shape.specs.Refusal.{number_of}
use Rattle.shape.specs.Limits.{limit_number}
use Rattle.shape.specs.GoodTest.{good_test}

-- e (n (r + 1) + r)
abbrev pub bytes_of : ℕ → ℕ → ℕ → ℕ
bytes_of n r e = e * (n * (r + 1) + r)

-- done, or the refusal
abbrev pub Answer : Type 0
Answer = Result Unit Refusal

abbrev pub answer_number : Answer → ℕ
answer_number (Ok u) = 0
answer_number (Err x) = number_of x

-- lines 1 to 4 are the limits; 5: a weak shape; 6: the buffer's length differs from the stripe's size
abbrev pub call_number : ℕ → ℕ → ℕ → ℕ → ℕ → ℕ → ℕ
call_number n r s e len last = limit_number n r s e (pick (good_test n r s) (pick (eqb len (bytes_of n r e)) last 6) 5)

-- a weak shape is named with its first failing pair
pub record Named (n r s : ℕ) (x : Refusal) : Type 0 where
  pub pair : (a b : ℕ) → x ≡ Weak a b → FirstPair (shift n r s) a b

-- the answer has this number, and a weak shape its pair
pub record Answered (n r s number : ℕ) (x : Answer) : Type 0 where
  pub is : answer_number x ≡ number
  pub named : (y : Refusal) → x ≡ Err y → Named n r s y
