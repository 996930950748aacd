-- Case C of 01 with U(4) changed from 44 to 45: no sound stripe agrees with the survivors, and rebuild's contract admits one outcome, 10 with the
-- strips 0 and 1 zero. Assumes nothing.
-- damaged == n=5, r=2, s=2, e=1: case B with FF in strips 0 and 1, and 45 for U(4)    cleared == the same with zero there
use Rattle.std.specs.Prelude.{◌≡◌, refl, false, List, [], ◌∷◌, ◌++◌, ℕ, ◌<◌, length, Err}
use Rattle.std.proofs.Common.{sym, ap, ◌∙◌, arith, lit≤}
use Rattle.code.specs.Below.{count}
use Rattle.code.specs.Xor.{◌⊕◌, ⊕_assoc, ⊕_comm, ⊕_self, ⊕_zero}
use Rattle.code.specs.Sum.{sum_to}
use Rattle.code.specs.Place.{strip_of, at}
use Rattle.code.specs.Sound.{Published}
use Rattle.code.specs.SoundLaws.{sound_published}
use Rattle.code.specs.Shift.{meets, shift}
use Rattle.code.proofs.ShiftLaws.{shift_fair}
use Rattle.code.specs.Bound.{q, pr, searched}
use Rattle.shape.specs.declared.refusal.Refusal.TheVariants.{NoSound}
use Rattle.shape.specs.Mask.{lost_in}
use Rattle.rebuild.specs.Rebuild.{Agreeable, Cleared, Rebuilds}
use Rattle.rebuild.specs.RebuildNumber.{Accepted}
use Rattle.rebuild.proofs.RebuildNumberLaws.{number_accepted}
use Rattle.rebuild.proofs.RebuildMet.{rebuilds_none}
use Rattle.rebuild.proofs.RebuildDetermined.{rebuild_determined}
use Rattle.shutout.specs.Computed.{where?, kept?, zero?}
use Rattle.shape.specs.Call.{Answer}

-- the survivors with the bytes a in strips 0 and 1
unfoldable pub strips : List ℕ → List ℕ
strips a = a ++ (0x04 ∷ 0x80 ∷ 0x04 ∷ 0x08 ∷ 0x03 ∷ 0x22 ∷ 0x10 ∷ 0x05 ∷ 0x45 ∷ 0x1F ∷ 0xE6 ∷ [])

unfoldable pub damaged : List ℕ
damaged = strips (0xFF ∷ 0xFF ∷ 0xFF ∷ 0xFF ∷ 0xFF ∷ 0xFF ∷ [])

unfoldable pub cleared : List ℕ
cleared = strips (0 ∷ 0 ∷ 0 ∷ 0 ∷ 0 ∷ 0 ∷ [])

-- ---- no sound stripe agrees

-- a sum without its last term, without its first, and without all but the second of a row's five
without_last : (x c v : ℕ) → v ≡ x ⊕ c → v ⊕ c ≡ x
without_last x c v e = ap (λ (y : ℕ). y ⊕ c) e ∙ ⊕_assoc x c c ∙ ap (λ (y : ℕ). x ⊕ y) (⊕_self c) ∙ ⊕_zero x

without_first : (c x v : ℕ) → v ≡ c ⊕ x → v ⊕ c ≡ x
without_first c x v e = without_last x c v (e ∙ ⊕_comm c x)

second : (a b x y z v : ℕ) → v ≡ a ⊕ b ⊕ x ⊕ y ⊕ z → v ⊕ z ⊕ y ⊕ x ⊕ a ≡ b
second a b x y z v e =
    without_first a b (v ⊕ z ⊕ y ⊕ x) (without_last (a ⊕ b) x (v ⊕ z ⊕ y) (without_last (a ⊕ b ⊕ x) y (v ⊕ z) (without_last (a ⊕ b ⊕ x ⊕ y) z v e)))

-- diagonal 2, row 0, diagonal 3 and row 1 give the lost data a, b, c, d, each from the one before; then diagonal 4 has 44
unsolvable : (a b c d : ℕ) → 0x04 ≡ 0 ⊕ a ⊕ 0x05 → 0x1F ≡ 0 ⊕ a ⊕ b ⊕ 0x04 ⊕ 0x08 ⊕ 0x10 → 0x22 ≡ 0 ⊕ b ⊕ c → 0xE6 ≡ 0 ⊕ c ⊕ d ⊕ 0x80 ⊕ 0x03 ⊕ 0x05
    → 0x45 ≡ 0 ⊕ 0x04 ⊕ d → ⊥
unfolding ◌⊕◌
unsolvable a b c d u₂ h₀ u₃ h₁ u₄ =
    let is_a : 0x01 ≡ a = without_last a 0x05 0x04 u₂ in
    let is_b : 0x02 ≡ b = ap (λ (y : ℕ). 0x07 ⊕ 0x04 ⊕ y) is_a ∙ second a b 0x04 0x08 0x10 0x1F h₀ in
    let is_c : 0x20 ≡ c = ap (λ (y : ℕ). 0x22 ⊕ y) is_b ∙ without_first b c 0x22 u₃ in
    let is_d : 0x40 ≡ d = ap (λ (y : ℕ). 0x60 ⊕ y) is_c ∙ second c d 0x80 0x03 0x05 0xE6 h₁ in
    let four : 0x44 ≡ 0x04 ⊕ d = ap (λ (y : ℕ). 0x04 ⊕ y) is_d in
    omega (arith, u₄ ∙ sym four)

none_agrees : Agreeable (shift 5 2 2) 1 (lost_in 3) damaged → ⊥
unfolding damaged strips sum_to meets
none_agrees g =
    unsolvable (at t 1 0 0) (at t 1 0 3) (at t 1 0 1) (at t 1 0 4)
    (cc (as_printed.diagonals 2 (lit≤ tt), byte 8 (lit≤ tt) refl, byte 13 (lit≤ tt) refl))
    (cc (as_printed.rows 0 (lit≤ tt), byte 15 (lit≤ tt) refl, byte 6 (lit≤ tt) refl, byte 9 (lit≤ tt) refl, byte 12 (lit≤ tt) refl))
    (cc (as_printed.diagonals 3 (lit≤ tt), byte 11 (lit≤ tt) refl))
    (cc (as_printed.rows 1 (lit≤ tt), byte 16 (lit≤ tt) refl, byte 7 (lit≤ tt) refl, byte 10 (lit≤ tt) refl, byte 13 (lit≤ tt) refl))
    (cc (as_printed.diagonals 4 (lit≤ tt), byte 14 (lit≤ tt) refl, byte 6 (lit≤ tt) refl))
  where
    t : List ℕ
    t = g.stripe

    as_printed : Published (shift 5 2 2) (at t 1 0)
    as_printed = sound_published (shift 5 2 2) (shift_fair 5 2 2 (lit≤ tt)) (at t 1 0) (g.sound.each 0 (lit≤ tt))

    byte : (p : ℕ) → p < 17 → lost_in 3 (strip_of 3 p) ≡ false → at damaged 1 0 p ≡ at t 1 0 p
    byte = (g.agree 0 (lit≤ tt)).survivors

-- ---- the one outcome

damaged_accepted : Accepted 5 2 2 1 (length damaged) 3
unfolding damaged strips count q pr searched
damaged_accepted = number_accepted 5 2 2 1 17 3 refl

damaged_cleared : Cleared (shift 5 2 2) 1 (lost_in 3) damaged cleared
unfolding damaged cleared strips where?
damaged_cleared =
    record {
      kept = (kept? (shift 5 2 2) 1 (lost_in 3) damaged cleared).gives tt;
      zero = (zero? (shift 5 2 2) 1 (lost_in 3) cleared).gives tt;
      none = none_agrees;
    }

pub case_c_met : Rebuilds 5 2 2 1 3 damaged cleared (Err NoSound)
case_c_met = rebuilds_none 5 2 2 1 3 damaged cleared damaged_accepted damaged_cleared

pub case_c_outcome : (after : List ℕ) (x : Answer) → Rebuilds 5 2 2 1 3 damaged after x → (x ≡ Err NoSound) × (after ≡ cleared)
case_c_outcome after x w = rebuild_determined 5 2 2 1 3 damaged after cleared x (Err NoSound) w case_c_met
