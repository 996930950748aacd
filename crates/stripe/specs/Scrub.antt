-- SCRUB counts the rows whose H is wrong and the diagonals whose U is wrong, each once however many bytes differ, and says what that finds.
-- Assumes nothing.
-- counted_of L e s == what it answers on a buffer of the right size
use Rattle.std.specs.Prelude.{◌≡◌, List, ℕ, length, Result, Ok, Err}
use Rattle.code.specs.Below.{count}
use Rattle.code.specs.Layout.{Layout}
use Rattle.code.specs.Shift.{shift}
use Rattle.shape.specs.declared.refusal.Refusal.{Refusal}
use Rattle.shape.specs.Refusal.{number_of}
use Rattle.shape.specs.Call.{call_number, Named}
use Rattle.finding.specs.declared.Counts.{Counts}
use Rattle.finding.specs.Found.{wrong_row, wrong_diagonal, found, Finds}

-- the counts and what they find, or the refusal
abbrev pub Scrubbed : Type 0
Scrubbed = Result Counts Refusal

abbrev pub scrubbed_number : Scrubbed → ℕ
scrubbed_number (Ok c) = 0
scrubbed_number (Err x) = number_of x

-- scrub on the buffer b answers x: 0 with its counts and its finding, or 1 to 6
pub record Scrubs (n r s e : ℕ) (b : List ℕ) (x : Scrubbed) : Type 0 where
  pub number : scrubbed_number x ≡ call_number n r s e (length b) 0
  pub named : (y : Refusal) → x ≡ Err y → Named n r s y
  pub finds : (c : Counts) → x ≡ Ok c → Finds (shift n r s) e b c

abbrev pub counted_of : Layout → ℕ → List ℕ → Counts
counted_of L e s = record { rows = count L.r (wrong_row L e s); diagonals = count L.n (wrong_diagonal L e s); finding = found L e s }
