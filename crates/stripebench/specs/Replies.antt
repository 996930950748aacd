-- REPLIES: the number of a refusal, 1 to 10 as the library has them, and 11 where no shape is set. Assumes nothing.
-- decimal n == the digits of n    numbered f x == the answer x, with the number that f gives its refusal
use Rattle.std.specs.Prelude.{ℕ, List, ◌++◌, eqb, codes, Result, Ok, Err}
use Rattle.std.specs.Fmt.{decimal}
use Rattle.std.specs.Result.{result_map_both}
use Rattle.code.specs.Sum.{pick}
use Rattle.shape.specs.Refusal.{number_of}
use Rattle.stripebench.specs.declared.replies.Reply.{Reply}
use Rattle.stripebench.specs.declared.replies.Reply.TheVariants.{Done, One, Two}
use Rattle.stripebench.specs.declared.replies.Refused.{Refused}
use Rattle.stripebench.specs.declared.replies.Refused.TheVariants.{Library, NoShape}

abbrev pub refused_number : Refused → ℕ
refused_number (Library x) = number_of x
refused_number NoShape = 11

abbrev pub numbered : {E : Type 0} → (E → ℕ) → Result Reply E → Result Reply ℕ
numbered f x = result_map_both (λ z. z) f x

-- 0 with what comes with it, or the refusal's number
abbrev pub replied : ℕ → Reply → Result Reply ℕ
replied number done = pick (eqb number 0) (Ok done) (Err number)

-- the text of an answer, behind the kind on the record's line
abbrev pub reply_text : Reply → List ℕ
reply_text Done = codes "0"
reply_text (One x) = codes "0 " ++ decimal x
reply_text (Two x y) = codes "0 " ++ (decimal x ++ (codes " " ++ decimal y))

abbrev pub refused_text : Refused → List ℕ
refused_text x = decimal (refused_number x)
