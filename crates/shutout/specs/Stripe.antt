-- Programs that the contracts of encode, write, read and scrub shut out, and that no edit of one line makes: each contract, applied to what that
-- program would leave and answer on a named stripe, is absurd. Assumes nothing.
-- blank == the data of case A of 01 with every H and U zero    case_b == case B (CaseB)
use Rattle.std.specs.Prelude.{◌≡◌, refl, List, [], ◌∷◌, ℕ, length, get_or, set, take, drop, Err, Ok}
use Rattle.std.proofs.Common.{ap, arith}
use Rattle.code.specs.Xor.{◌⊕◌}
use Rattle.code.specs.Sum.{sum_to, table}
use Rattle.code.specs.Below.{some, count}
use Rattle.code.specs.Sound.{along}
use Rattle.code.specs.Shift.{diagonal}
use Rattle.code.specs.Bound.{q, pr, searched}
use Rattle.shape.specs.declared.refusal.Refusal.{Refusal}
use Rattle.shape.specs.Refusal.{number_of, refusal_some}
use Rattle.shape.specs.Call.{Answered}
use Rattle.patch.specs.Written.{written_at, written_over}
use Rattle.finding.specs.declared.Finding.{Finding}
use Rattle.stripe.specs.Encode.{Encodes}
use Rattle.stripe.specs.Write.{written, Writes}
use Rattle.stripe.specs.Read.{read_number, read_part}
use Rattle.stripe.specs.Scrub.{Scrubs}
use Rattle.shutout.specs.CaseB.{case_b}

-- no refusal has the number 0
never_done : (x : Refusal) → number_of x ≡ 0 → ⊥
never_done x e = omega (arith, refusal_some x)

-- ---- encode, on case A: n=3, r=1, s=1, e=1

unfoldable pub blank : List ℕ
blank = 0x11 ∷ 0 ∷ 0x22 ∷ 0 ∷ 0x44 ∷ 0 ∷ 0 ∷ []

-- an encode that does nothing leaves H(0) zero
pub encode_idle : Encodes 3 1 1 1 blank blank (Ok tt) → ⊥
unfolding blank sum_to ◌⊕◌
encode_idle x = other (((x.done refl).sound 0 (omega arith)).rows 0 (omega arith))
  where
    other : ◌≡◌ {A = ℕ} 0 0x77 → ⊥
    other e = omega arith

-- an encode that sets the H alone leaves U(0) zero
pub encode_rows_alone : Encodes 3 1 1 1 blank (set blank 6 0x77) (Ok tt) → ⊥
unfolding blank sum_to along diagonal ◌⊕◌
encode_rows_alone x = other (((x.done refl).sound 0 (omega arith)).diagonals 0 (omega arith))
  where
    other : ◌≡◌ {A = ℕ} 0 0x22 → ⊥
    other e = omega arith

-- an encode that clears the data leaves a sound stripe, of other data
pub encode_clears : Encodes 3 1 1 1 blank (0 ∷ 0 ∷ 0 ∷ 0 ∷ 0 ∷ 0 ∷ 0 ∷ []) (Ok tt) → ⊥
unfolding blank
encode_clears x = other ((x.done refl).elements 0 0 0 (omega arith) (omega arith) (omega arith))
  where
    other : ◌≡◌ {A = ℕ} 0 0x11 → ⊥
    other e = omega arith

-- an encode that refuses all
pub encode_refuses : (x : Refusal) → Encodes 3 1 1 1 blank blank (Err x) → ⊥
unfolding blank q pr searched
encode_refuses x y = never_done x y.answer.is

-- an encode that leaves out the last row, on case B: H(1) stays zero
pub encode_last_row : Encodes 5 2 2 1 (set case_b 16 0) (set case_b 16 0) (Ok tt) → ⊥
unfolding case_b sum_to ◌⊕◌
encode_last_row x = other (((x.done refl).sound 0 (omega arith)).rows 1 (omega arith))
  where
    other : ◌≡◌ {A = ℕ} 0 0xE6 → ⊥
    other e = omega arith

-- ---- write, on case B: n=5, r=2, s=2, e=1. FF at row 0, strip 2, which is byte 6

-- a write that does nothing leaves 04 there
pub write_idle : Writes 5 2 2 1 0 2 0 (0xFF ∷ []) case_b case_b (Ok tt) → ⊥
unfolding case_b written written_over written_at table diagonal q pr searched ◌⊕◌
write_idle x = other (ap (λ (s : List ℕ). get_or s 6 0) x.bytes)
  where
    other : ◌≡◌ {A = ℕ} 0x04 0xFF → ⊥
    other e = omega arith

-- a write that changes no parity leaves H(0) as it was
pub write_data_alone : Writes 5 2 2 1 0 2 0 (0xFF ∷ []) case_b (set case_b 6 0xFF) (Ok tt) → ⊥
unfolding case_b written written_over written_at table diagonal q pr searched ◌⊕◌
write_data_alone x = other (ap (λ (s : List ℕ). get_or s 15 0) x.bytes)
  where
    other : ◌≡◌ {A = ℕ} 0x1F 0xE4 → ⊥
    other e = omega arith

-- a write that adds new, where old and new belongs, makes H(0) E0
pub write_new_alone : Writes 5 2 2 1 0 2 0 (0xFF ∷ []) case_b (set (set (set case_b 6 0xFF) 15 0xE0) 14 0xBB) (Ok tt) → ⊥
unfolding case_b written written_over written_at table diagonal q pr searched ◌⊕◌
write_new_alone x = other (ap (λ (s : List ℕ). get_or s 15 0) x.bytes)
  where
    other : ◌≡◌ {A = ℕ} 0xE0 0xE4 → ⊥
    other e = omega arith

-- a write that refuses all
pub write_refuses : (x : Refusal) → Writes 5 2 2 1 0 2 0 (0xFF ∷ []) case_b case_b (Err x) → ⊥
unfolding case_b q pr searched
write_refuses x y = never_done x y.answer.is

-- a write that refuses nothing: row 2 is the U of a strip
pub write_row_r : (s : List ℕ) → Writes 5 2 2 1 2 2 0 (0xFF ∷ []) case_b s (Ok tt) → ⊥
unfolding case_b q pr searched
write_row_r s x = other x.answer.is
  where
    other : ◌≡◌ {A = ℕ} 0 9 → ⊥
    other e = omega arith

-- ---- read, on case B

-- a check that refuses nothing: strip 5 holds the H
pub check_strip_n : Answered 5 2 2 (read_number 5 2 2 1 17 0 5) (Ok tt) → ⊥
unfolding q pr searched
check_strip_n x = other x.is
  where
    other : ◌≡◌ {A = ℕ} 0 9 → ⊥
    other e = omega arith

-- a check that refuses all
pub check_refuses : (x : Refusal) → Answered 5 2 2 (read_number 5 2 2 1 17 0 2) (Err x) → ⊥
unfolding q pr searched
check_refuses x y = never_done x y.is

-- a read that hands back nothing, whatever it is asked for
pub read_nothing : [] ≡ read_part 5 2 2 1 0 2 case_b → ⊥
unfolding case_b read_part q pr searched
read_nothing x = other (ap length x)
  where
    other : ◌≡◌ {A = ℕ} 0 1 → ⊥
    other e = omega arith

-- a read that hands out a part when refused: H(0), which the row and strip n name
pub read_strip_n : take 1 (drop 15 case_b) ≡ read_part 5 2 2 1 0 5 case_b → ⊥
unfolding case_b read_part q pr searched
read_strip_n x = other (ap length x)
  where
    other : ◌≡◌ {A = ℕ} 1 0 → ⊥
    other e = omega arith

-- ---- scrub, on case B

-- a scrub that finds nothing wrong, with FF at byte 6
pub scrub_blind : (f : Finding) → Scrubs 5 2 2 1 (set case_b 6 0xFF) (Ok (record { rows = 0; diagonals = 0; finding = f })) → ⊥
unfolding case_b some count sum_to ◌⊕◌
scrub_blind f x = other (x.finds _ refl).rows_are
  where
    other : ◌≡◌ {A = ℕ} 0 1 → ⊥
    other e = omega arith

-- a scrub that invents counts on a sound stripe
pub scrub_invents : (f : Finding) → Scrubs 5 2 2 1 case_b (Ok (record { rows = 1; diagonals = 1; finding = f })) → ⊥
unfolding case_b some count sum_to along diagonal ◌⊕◌
scrub_invents f x = other (x.finds _ refl).diagonals_are
  where
    other : ◌≡◌ {A = ℕ} 1 0 → ⊥
    other e = omega arith

-- a scrub that refuses all
pub scrub_refuses : (x : Refusal) → Scrubs 5 2 2 1 case_b (Err x) → ⊥
unfolding case_b q pr searched
scrub_refuses x y = never_done x y.number
