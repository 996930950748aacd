-- SCRUB on a named stripe: case B of 01, and B with a byte changed, so that no counts are invented. Assumes nothing.
use Rattle.std.specs.Prelude.{◌≡◌, refl, List, [], ◌∷◌, ℕ, set}
use Rattle.code.specs.Xor.{◌⊕◌}
use Rattle.code.specs.Sum.{sum_to}
use Rattle.code.specs.Sound.{along}
use Rattle.code.specs.Below.{some, count, first}
use Rattle.code.specs.Shift.{diagonal, meets, shift}
use Rattle.finding.specs.declared.Finding.TheVariants as finding
use Rattle.finding.specs.declared.Finding.{Finding}
use Rattle.finding.specs.declared.Counts.{Counts}
use Rattle.finding.specs.Found.{found_of}
use Rattle.stripe.specs.Scrub.{counted_of}

-- n=5, r=2, s=2, e=1
unfoldable pub case_b : List ℕ
case_b = 0x01 ∷ 0x20 ∷ 0x88 ∷ 0x02 ∷ 0x40 ∷ 0x13 ∷ 0x04 ∷ 0x80 ∷ 0x04 ∷ 0x08 ∷ 0x03 ∷ 0x22 ∷ 0x10 ∷ 0x05 ∷ 0x44 ∷ 0x1F ∷ 0xE6 ∷ []

-- what scrub counts on B with x as byte p
unfoldable pub answer_with : ℕ → ℕ → Counts
answer_with p x = counted_of (shift 5 2 2) 1 (set case_b p x)

abbrev counts : ℕ → ℕ → Finding → Counts
counts p q f = record { rows = p; diagonals = q; finding = f }

pub record CaseB : Type 0 where
  pub sound : answer_with 0 0x01 ≡ counts 0 0 finding.Sound
  -- row 0 of strip 2
  pub element : answer_with 6 0xFF ≡ counts 1 1 (finding.Element 0 2)
  -- H(1)
  pub h : answer_with 16 0xE7 ≡ counts 1 0 (finding.H 1)
  -- U(4)
  pub u : answer_with 14 0x45 ≡ counts 0 1 (finding.U 4)

pub scrub_case_b : CaseB
unfolding case_b answer_with some count found_of sum_to along first diagonal meets ◌⊕◌
scrub_case_b = record { sound = refl; element = refl; h = refl; u = refl }
