-- WRITE replaces a run of bytes of one data element, and adds old ⊕ new to H of its row and to U of its diagonal at the same bytes. Assumes nothing.
-- row i, strip j, offset o and the bytes of run are what the call is given
use Rattle.std.specs.Prelude.{◌≡◌, Bool, true, List, ℕ, ◌+◌, eqb, ltb, leb, length}
use Rattle.code.specs.Sum.{pick}
use Rattle.code.specs.Shift.{shift}
use Rattle.shape.specs.Call.{call_number, Answered, Answer}
use Rattle.patch.specs.Written.{written_over}

-- line 9: row not below r, strip not below n, or offset plus length above e
abbrev pub place_outside : ℕ → ℕ → ℕ → ℕ → ℕ → ℕ → ℕ → Bool
place_outside n r e i j o len = pick (leb r i) true (pick (leb n j) true (ltb e (o + len)))

-- 0 to 6, then 9
abbrev pub write_number : ℕ → ℕ → ℕ → ℕ → ℕ → ℕ → ℕ → ℕ → ℕ → ℕ
write_number n r s e size i j o len = call_number n r s e size (pick (place_outside n r e i j o len) 9 0)

-- what write leaves of the buffer b: a refused write leaves it as it was
unfoldable pub written : ℕ → ℕ → ℕ → ℕ → ℕ → ℕ → ℕ → List ℕ → List ℕ → List ℕ
written n r s e i j o run b = pick (eqb (write_number n r s e (length b) i j o (length run)) 0) (written_over (shift n r s) e i j o run b) b

-- write on the buffer before leaves after and answers x
pub record Writes (n r s e i j o : ℕ) (run before after : List ℕ) (x : Answer) : Type 0 where
  pub answer : Answered n r s (write_number n r s e (length before) i j o (length run)) x
  pub bytes : after ≡ written n r s e i j o run before
