-- STUCK: data that is zero on the survivors and sums to zero along every live line is, once encoded, a sound stripe that is zero outside the
-- lost strips; so where it is not all zero the lost set fails. Then the same by places: a set that every live line meets in none or in two.
-- Assumes nothing.
use Rattle.std.specs.Prelude.{ℕ, ◌<◌, ◌≡◌, ◌≢◌, Bool, true, false}
use Rattle.std.proofs.Common.{sym, ap, ◌∙◌, arith}
use Rattle.code.specs.Sum.{sum_to, only}
use Rattle.code.specs.SumLaws.{only_byte, clash}
use Rattle.code.specs.Even.{NoneOrTwo, even_sum, false_of}
use Rattle.code.specs.Code.{Agree, Fails}
use Rattle.code.specs.Linear.{zeros, fails_of_some}
use Rattle.code.specs.Place.{strip_of}
use Rattle.code.specs.Layout.{Layout, Fair, height, X, code}
use Rattle.code.specs.LayoutLaws.{by_places, X_strip, H_strip, U_strip, X_below}
use Rattle.code.specs.Sound.{along}
use Rattle.code.specs.SoundLaws.{along_meets}
use Rattle.code.specs.Encoded.{encoded, encoded_X, encoded_H, encoded_U, encoded_balanced, encoded_bytes}

-- data of bytes, zero on the survivors, that sums to zero along every live row and every live diagonal, and is not all zero
pub record Stuck (L : Layout) (lost : ℕ → Bool) (K : ℕ → ℕ → ℕ) : Type 0 where
  pub bytes : (i j : ℕ) → i < L.r → j < L.n → K i j < 256
  pub kept : (i j : ℕ) → i < L.r → j < L.n → lost j ≡ false → K i j ≡ 0
  pub rows : (i : ℕ) → i < L.r → lost L.n ≡ false → sum_to L.n (K i) ≡ 0
  pub diagonals : (d : ℕ) → d < L.n → lost (L.home d) ≡ false → along L K d ≡ 0
  pub row : ℕ
  pub strip : ℕ
  pub row_below : row < L.r
  pub strip_below : strip < L.n
  pub some : K row strip ≢ 0

-- STUCK, by sums
pub stuck_fails : (L : Layout) → Fair L → (lost : ℕ → Bool) (K : ℕ → ℕ → ℕ) → Stuck L lost K → Fails (code L) lost
stuck_fails L F lost K s =
    fails_of_some (code L) lost (encoded L K) (encoded_bytes L K F s.bytes) (encoded_balanced L K F) agree
    (X L s.row s.strip) (X_below L s.row s.strip s.row_below s.strip_below)
    (λ e. s.some (sym (encoded_X L K s.row s.strip s.row_below s.strip_below) ∙ e))
  where
    agree : Agree (code L) lost (encoded L K) zeros
    agree =
        record {
          survivors = by_places L F (λ p. lost (strip_of (height L) p) ≡ false → encoded L K p ≡ 0)
              (λ i j li lj e. encoded_X L K i j li lj ∙ s.kept i j li lj (sym (ap lost (X_strip L i j li)) ∙ e))
              (λ i li e. encoded_H L K i li ∙ s.rows i li (sym (ap lost (H_strip L i li)) ∙ e))
              (λ d ld e. encoded_U L K F d ld ∙ s.diagonals d ld (sym (ap lost (U_strip L d)) ∙ e));
        }

-- ---- by places

-- data places of the lost strips that every live line meets in none or two
pub record EvenSet (L : Layout) (lost : ℕ → Bool) (K : ℕ → ℕ → Bool) : Type 0 where
  pub inside : (i j : ℕ) → K i j ≡ true → lost j ≡ true
  pub rows : lost L.n ≡ false → (i : ℕ) → i < L.r → NoneOrTwo L.n (K i)
  pub diagonals : (d : ℕ) → d < L.n → lost (L.home d) ≡ false → NoneOrTwo L.r (λ i. K i (L.meets i d))

pub stuck_places : (L : Layout) → Fair L → (lost : ℕ → Bool) (K : ℕ → ℕ → Bool) → EvenSet L lost K → (i j : ℕ) → i < L.r → j < L.n → K i j ≡ true → Fails (code L) lost
stuck_places L F lost K s i j li lj e =
    stuck_fails L F lost (λ h l. only (K h l) 1)
    (record {
      bytes = λ h l lh ll. only_byte (K h l) 1 (omega arith);
      kept = λ h l lh ll o. ap (λ (t : Bool). only t 1) (false_of (K h l) (λ q. clash (sym o ∙ s.inside h l q)));
      rows = λ h lh live. even_sum L.n (K h) (s.rows live h lh);
      diagonals = λ d ld live. along_meets L F (λ h l. only (K h l) 1) d ld ∙ even_sum L.r (λ h. K h (L.meets h d)) (s.diagonals d ld live);
      row = i;
      strip = j;
      row_below = li;
      strip_below = lj;
      some = λ z. lone (sym (ap (λ (t : Bool). only t 1) e) ∙ z);
    })
  where
    lone : ◌≡◌ {A = ℕ} 1 0 → ⊥
    lone z = omega arith
