-- The ends of a mask: its lowest one by the trailing zeros, its highest one and the ones above bit n by the leading zeros. Assumes nothing.
use Rattle.std.specs.Prelude.{◌≡◌, refl, Bool, true, false, ◌↔◌, ℕ, zero, suc, ◌+◌, ◌-◌, ◌*◌, ◌/◌, ◌%◌, ◌^◌, ◌≤◌, ◌<◌, ltb, eqb}
use Rattle.std.proofs.Common.{sym, ap, ◌∙◌, subst, suc-le-suc, zero-lt-suc, not-suc-le-zero, div-one, lt_irrefl, lt_of_lt_of_le, pow-suc, arith, lt-ltb, le-ltb, le-leb, leb-true, leb-false, eq-eqb, pow_pos, pow_mono}
use Rattle.std.proofs.Math.Nat.{pow-succ', div-div-eq-div-mul, div-eq_of_lt-le}
use Rattle.std.proofs.Math.Decide.{dec_lt}
use Rattle.std.proofs.lemmas.Bool.{lt-leb}
use Rattle.std.proofs.Math.Arith.{lt-one}
use Rattle.std.specs.Int.Count.{count_trailing_zeros, under, count_leading_zeros}
use Rattle.std.proofs.lemmas.Nat.{leading_top, leading_length}
use Rattle.shape.specs.Mask.{bit_at, lost_in, above_test, SomeAbove, FirstLost, LastLost}
use Rattle.shape.specs.MaskLaws.{none_from}

-- ---- the lowest one

half_bit : (x j : ℕ) → bit_at x (suc j) ≡ bit_at (x / 2) j
half_bit x j = ap (λ (y : ℕ). x / y % 2) (pow-succ' 2 j) ∙ ap (λ (y : ℕ). y % 2) (sym (div-div-eq-div-mul x 2 (2 ^ j)))

bit_zero : (x : ℕ) → bit_at x 0 ≡ x % 2
bit_zero x = ap (λ (y : ℕ). y % 2) (div-one x)

-- t is the lowest one of x
abbrev Low : ℕ → ℕ → Type 0
Low x t = (bit_at x t ≡ 1) × ((j : ℕ) → j < t → bit_at x j ≡ 0)

low : (k x : ℕ) → zero < x → x < 2 ^ k → (count_trailing_zeros k x < k) × Low x (count_trailing_zeros k x)
unfolding count_trailing_zeros
low zero x p h = absurd (lt_irrefl zero (subst (λ (y : ℕ). zero < y) (lt-one h) p))
low (suc k) x p h = go (λ q. low k (x / 2) q half) (x % 2) refl
  where
    half : x / 2 < 2 ^ k
    half = let e : 2 ^ suc k ≡ 2 * 2 ^ k = pow-succ' 2 k in omega arith

    down : (t : ℕ) → Low (x / 2) t → x % 2 ≡ 0 → (j : ℕ) → j < suc t → bit_at x j ≡ 0
    down t l e zero lt = bit_zero x ∙ e
    down t l e (suc j) lt = half_bit x j ∙ l.1 j (omega arith)

    go : (zero < x / 2 → (count_trailing_zeros k (x / 2) < k) × Low (x / 2) (count_trailing_zeros k (x / 2)))
        → (d : ℕ) → x % 2 ≡ d → (under d (count_trailing_zeros k (x / 2)) < suc k) × Low x (under d (count_trailing_zeros k (x / 2)))
    go rest zero e =
        let ih = rest (omega arith) in
        (suc-le-suc ih.0, (half_bit x (count_trailing_zeros k (x / 2)) ∙ ih.1.0, down (count_trailing_zeros k (x / 2)) ih.1 e))
    go rest (suc zero) e = (zero-lt-suc k, (bit_zero x ∙ e, λ j lt. absurd (not-suc-le-zero lt)))
    go rest (suc (suc d)) e = absurd (omega arith)

module _ (x : ℕ) (fits : x < 2 ^ 64) where
  pub trailing_first : 0 < x → FirstLost (lost_in x) (count_trailing_zeros 64 x)
  trailing_first p =
      let l = low 64 x p fits in
      record { within = l.0; is_lost = eq-eqb _ _ l.1.0; lower = λ j h. ap (λ (b : ℕ). eqb b 1) (l.1.1 j h) }

-- ---- the highest one

top_bit : (x j : ℕ) → 2 ^ j ≤ x → x < 2 ^ suc j → lost_in x j ≡ true
top_bit x j low high =
    let e : 2 ^ suc j ≡ 2 ^ j * 2 = pow-suc 2 j in
    let d : x / 2 ^ j ≡ 1 = div-eq_of_lt-le (2 ^ j) (omega arith) (omega arith) in
    ap (λ (y : ℕ). eqb (y % 2) 1) d

-- where the test above bit n fails, no strip above n is lost
pub above_none : (x n : ℕ) → above_test x n ≡ false → (j : ℕ) → n < j → lost_in x j ≡ false
above_none x n e j l = none_from x (n + 1) (leb-false (2 ^ (n + 1)) x e) j (omega arith)

-- so the last lost strip is at most n
pub above_last : (x n b : ℕ) → above_test x n ≡ false → LastLost (lost_in x) b → b ≤ n
above_last x n b e l = go (dec_lt n b)
  where
    go : Dec (n < b) → b ≤ n
    go (yes h) = let z : ◌≡◌ {A = ℕ} 0 1 = cc (above_none x n e b h, l.is_lost) in omega arith
    go (no h) = omega arith

module _ (x : ℕ) (fits : x < 2 ^ 64) where
  pub leading_most : 0 < x → count_leading_zeros 64 x ≤ 63
  leading_most p = let t = leading_top 64 x p fits in omega (arith, t.1)

  pub leading_last : 0 < x → LastLost (lost_in x) (63 - count_leading_zeros 64 x)
  leading_last p =
      let t = leading_top 64 x p fits in
      let at : t.0 ≡ 63 - count_leading_zeros 64 x = omega (arith, t.1) in
      subst (LastLost (lost_in x)) at
      (record { within = omega (arith, t.1); is_lost = top_bit x t.0 t.2 t.3; upper = none_from x (suc t.0) t.3 })

  -- the leading zeros tell whether a one stands above bit n
  pub leading_above : (n : ℕ) → n ≤ 63 → ltb (count_leading_zeros 64 x) (63 - n) ≡ above_test x n
  leading_above n l = go (dec_lt (count_leading_zeros 64 x) (63 - n))
    where
      go : Dec (count_leading_zeros 64 x < 63 - n) → ltb (count_leading_zeros 64 x) (63 - n) ≡ above_test x n
      go (yes h) =
          let t = leading_length 64 x fits in
          let m : 2 ^ suc (n + 1) ≤ 2 ^ t.0 = pow_mono (omega (arith, t.1)) in
          let e : 2 ^ suc (n + 1) ≡ 2 * 2 ^ (n + 1) = pow-succ' 2 (n + 1) in
          let above : 2 ^ (n + 1) ≤ x = omega (arith, t.3) in
          lt-ltb _ _ h ∙ sym (le-leb _ _ above)
      go (no h) =
          let t = leading_length 64 x fits in
          let m : 2 ^ t.0 ≤ 2 ^ (n + 1) = pow_mono (omega (arith, t.1)) in
          let few : 63 - n ≤ count_leading_zeros 64 x = omega arith in
          let none : x < 2 ^ (n + 1) = omega (arith, t.2) in
          le-ltb _ _ few ∙ sym (lt-leb _ _ none)

  -- the test above bit n means: some strip above n is lost
  pub above_exactly : (n : ℕ) → (above_test x n ≡ true) ↔ SomeAbove (lost_in x) n
  above_exactly n = (λ e. found (leb-true (2 ^ (n + 1)) x e), λ s. go s (above_test x n) refl)
    where
      found : 2 ^ (n + 1) ≤ x → SomeAbove (lost_in x) n
      found h =
          let t = leading_top 64 x (lt_of_lt_of_le (pow_pos (n + 1)) h) fits in
          record { strip = t.0; higher = higher t.0 t.3 (dec_lt n t.0); is_lost = top_bit x t.0 t.2 t.3 }
        where
          higher : (j : ℕ) → x < 2 ^ suc j → Dec (n < j) → n < j
          higher j u (yes l) = l
          higher j u (no l) = let m : 2 ^ suc j ≤ 2 ^ (n + 1) = pow_mono (omega arith) in absurd (omega arith)

      go : SomeAbove (lost_in x) n → (t : Bool) → above_test x n ≡ t → t ≡ true
      go s true e = refl
      go s false e =
          let z : lost_in x s.strip ≡ false = above_none x n e s.strip s.higher in
          let y : ◌≡◌ {A = ℕ} 0 1 = cc (z, s.is_lost) in
          absurd (omega arith)
