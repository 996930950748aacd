-- Pairs of strips that fail in the shift family: where a row stands at position n, and where a divisor of n has all its multiples below n
-- among the rows' positions. Assumes nothing.
use Rattle.std.specs.Prelude.{ℕ, zero, suc, ◌+◌, ◌-◌, ◌*◌, ◌/◌, ◌%◌, ◌<◌, ◌≤◌, ◌≡◌, refl, ◌≢◌, ◌⊎◌, eqb}
use Rattle.std.proofs.Math.Path.{sym}
use Rattle.std.proofs.Common.{ap, ◌∙◌, inl, inr, suc-mul, zero-mul, arith}
use Rattle.std.proofs.Math.Nat.{add-mod_right, mod_self, add-mul-mod_self_right, div-mul_cancel, dvd_of_mod-eq-zero, dvd-sub, le_of_dvd}
use Rattle.std.proofs.Math.Decide.{dec_lt}
use Rattle.code.specs.Sum.{only}
use Rattle.code.specs.SumLaws.{only_yes, only_no, only_byte}
use Rattle.code.specs.Code.{Fails}
use Rattle.code.specs.Layout.{code, pair}
use Rattle.code.specs.AlongLaws.{strip_sum, strip_sum_none}
use Rattle.code.specs.Pair.{Matched, fails_two}
use Rattle.code.specs.Circle.{to_mod}
use Rattle.code.specs.Shift.{diagonal, shift}
use Rattle.code.proofs.ShiftLaws.{shift_fair}
use Rattle.code.proofs.Positions.{position_of, diagonal_at, value_row, value_low, value_high, value_strip}
use Rattle.code.specs.Positions.{position, value, Closed}

lone : ◌≡◌ {A = ℕ} 1 0 → ⊥
lone e = omega arith

-- a row at position n: its element of each strip lies on that strip's own diagonal
pub fails_over : (n r s : ℕ) → 2 ≤ n → s < n → n < r + s → Fails (code (shift n r s)) (pair 0 1)
unfolding position
fails_over n r s h ls over =
    fails_two (shift n r s) (shift_fair n r s (omega arith)) 0 1 (omega arith) h (λ i. only (eqb i z) 1) (λ i li. only_byte (eqb i z) 1 (omega arith))
    (record { each = λ d ld n0 n1. none 0 d (omega arith) n0 ∙ sym (none 1 d h n1) }) z (omega arith)
    (λ e. lone (sym (only_yes z z 1 refl) ∙ e))
  where
    z : ℕ
    z = r + s - 1 - n

    own : (c : ℕ) → c < n → diagonal n r s z c ≡ c
    own c lc = diagonal_at n r s z (omega arith) c c lc (to_mod n (c + position r s z) c lc (inr (omega arith)))

    none : (c d : ℕ) → c < n → d ≢ c → strip_sum (shift n r s) (λ i. only (eqb i z) 1) c d ≡ 0
    none c d lc nd = strip_sum_none (shift n r s) (λ i. only (eqb i z) 1) c d (λ k lk e. only_no k z 1 (λ q. nd (sym e ∙ ap (λ (i : ℕ). diagonal n r s i c) q ∙ own c lc)))

module _ (n r s g : ℕ) (fits : r + s ≤ n) (c : Closed n r s g) where
  -- 1 at every row whose position g divides
  marks : ℕ → ℕ
  marks i = only (eqb (position r s i % g) 0) 1

  -- g divides n - u where it divides u
  far : (u : ℕ) → u < n → u % g ≡ 0 → g ≤ n - u
  far u lu e = le_of_dvd (omega arith) (dvd-sub g (dvd_of_mod-eq-zero g c.divides) (dvd_of_mod-eq-zero g e))

  -- then 1 stands at every position that g divides
  marks_at : (u : ℕ) → 0 < u → u < n → value r s marks u ≡ only (eqb (u % g) 0) 1
  unfolding marks
  marks_at u pu lu = go (dec_lt u s) (dec_lt u (s + r))
    where
      out : value r s marks u ≡ 0 → u % g ≢ 0 → value r s marks u ≡ only (eqb (u % g) 0) 1
      out e ne = e ∙ sym (only_no (u % g) 0 1 ne)

      go : Dec (u < s) → Dec (u < s + r) → value r s marks u ≡ only (eqb (u % g) 0) 1
      go (yes l) q = out (value_low r s marks u l) (λ e. omega (arith, le_of_dvd pu (dvd_of_mod-eq-zero g e)))
      go (no l) (no k) = out (value_high r s marks u (omega arith)) (λ e. omega (arith, far u lu e))
      go (no l) (yes k) =
          let at : position r s (s + r - 1 - u) ≡ u = position_of r s u (omega arith) k in
          ap (value r s marks) (sym at) ∙ value_row r s marks (s + r - 1 - u) (omega arith) ∙ ap (λ (x : ℕ). only (eqb (x % g) 0) 1) at

  -- the same on both strips
  marks_matched : Matched (shift n r s) 0 g marks
  marks_matched = record { each = λ d ld n0 ng. line d ld n0 ng (dec_lt d g) }
    where
      to : (d v : ℕ) → d < n → 0 < d → 0 < v → v < n → (d + v ≡ g) ⊎ (d + v ≡ g + n) → (n - d) % g ≡ v % g
          → strip_sum (shift n r s) marks 0 d ≡ strip_sum (shift n r s) marks g d
      to d v ld pd pv lv e q =
          value_strip r s marks n 0 d (n - d) fits (omega arith) ld (omega arith) (to_mod n (d + (n - d)) 0 (omega arith) (inr (omega arith)))
          ∙ marks_at (n - d) (omega arith) (omega arith)
          ∙ ap (λ (x : ℕ). only (eqb x 0) 1) q
          ∙ sym (marks_at v pv lv)
          ∙ sym (value_strip r s marks n g d v fits c.proper ld lv (to_mod n (d + v) g c.proper e))

      same : (d : ℕ) → d < g → (k : ℕ) → k * g ≡ n → (n - d) % g ≡ (g - d) % g
      same d l zero e = absurd (omega (arith, zero-mul g))
      same d l (suc k) e = ap (λ (x : ℕ). x % g) (omega (arith, suc-mul k g)) ∙ add-mul-mod_self_right (g - d) k g

      line : (d : ℕ) → d < n → d ≢ 0 → d ≢ g → Dec (d < g) → strip_sum (shift n r s) marks 0 d ≡ strip_sum (shift n r s) marks g d
      line d ld n0 ng (yes l) =
          to d (g - d) ld (omega arith) (omega arith) (omega arith) (inl (omega arith)) (same d l (n / g) (div-mul_cancel g (dvd_of_mod-eq-zero g c.divides)))
      line d ld n0 ng (no l) =
          to d (n + g - d) ld (omega arith) (omega arith) (omega arith) (inr (omega arith)) (sym (ap (λ (x : ℕ). x % g) (omega arith) ∙ add-mod_right (n - d) g))

  -- such a divisor makes the pair 0, g fail
  pub fails_at : Fails (code (shift n r s)) (pair 0 g)
  unfolding marks
  fails_at =
      let gap = far g c.proper (mod_self g) in
      fails_two (shift n r s) (shift_fair n r s (omega arith)) 0 g c.positive c.proper marks (λ i li. only_byte (eqb (position r s i % g) 0) 1 (omega arith)) marks_matched
      (s + r - 1 - g) (omega arith)
      (λ e. lone (sym (only_yes (position r s (s + r - 1 - g) % g) 0 1 (ap (λ (x : ℕ). x % g) (position_of r s g c.first (omega arith)) ∙ mod_self g)) ∙ e))
