-- Values on a circle of n positions that repeat at a distance, but not across position 0: by Euclid's algorithm they repeat at a divisor of n,
-- and a window of that many zeros makes them all zero. Assumes nothing.
-- Y u == the value at position u, 0 < u < n    δ == the distance
use Rattle.std.specs.Prelude.{ℕ, zero, suc, ◌+◌, ◌-◌, ◌*◌, ◌/◌, ◌%◌, ◌<◌, ◌≤◌, ◌≡◌, refl, ◌⊎◌}
use Rattle.std.specs.Int.{◌∣◌}
use Rattle.std.proofs.Math.Path.{sym, ap}
use Rattle.std.proofs.Common.{◌∙◌, subst, inl, inr, mod-lt, mod-eq_of_lt, suc-mul, div-add-mod', not-suc-le-zero, zero-mul, one-mul, arith}
use Rattle.std.proofs.Math.Nat.{mod-add-mod, add-mod_right, mod_self, mul-mod_right, div-mul_cancel, dvd_refl, dvd_of_mod-eq-zero, mod-eq-zero_of_dvd, dvd-mod_iff, le_of_dvd}
use Rattle.std.proofs.Math.Decide.{ℕ_discrete, dec_lt}
use Rattle.code.specs.Circle.{wrap}

-- below, at or above n
data Side (x n : ℕ) : Type 0 where
  below : x < n → Side x n
  same : x ≡ n → Side x n
  above : n < x → Side x n

side : (x n : ℕ) → Side x n
side x n = go (dec_lt x n) (dec_lt n x)
  where
    go : Dec (x < n) → Dec (n < x) → Side x n
    go (yes l) q = below l
    go (no h) (yes l) = above l
    go (no h) (no k) = same (omega arith)

-- ---- the periods of a sequence

-- E repeats after p
abbrev Period : (ℕ → ℕ) → ℕ → Type 0
Period E p = (t : ℕ) → E (t + p) ≡ E t

period_times : (E : ℕ → ℕ) (p : ℕ) → Period E p → (k t : ℕ) → E (t + k * p) ≡ E t
period_times E p h zero t = ap E (omega (arith, zero-mul p))
period_times E p h (suc k) t = ap E (omega (arith, suc-mul k p)) ∙ h (t + k * p) ∙ period_times E p h k t

period_mod : (E : ℕ → ℕ) (p : ℕ) → Period E p → (x : ℕ) → E x ≡ E (x % p)
period_mod E p h x = ap E (omega (arith, div-add-mod' x p)) ∙ period_times E p h (x / p) (x % p)

-- a common divisor of a and b that is a period of E
record Common (E : ℕ → ℕ) (a b : ℕ) : Type 0 where
  g : ℕ
  positive : 0 < g
  left : g ∣ a
  right : g ∣ b
  period : Period E g

-- Euclid's algorithm: two periods have a common divisor that is one
common : (E : ℕ → ℕ) (fuel a b : ℕ) → b < fuel → 0 < b → Period E a → Period E b → Common E a b
common E zero a b l pb ha hb = absurd (not-suc-le-zero l)
common E (suc fuel) a b l pb ha hb = at (ℕ_discrete (a % b) 0) (common E fuel b (a % b))
  where
    rest : Period E (a % b)
    rest t = sym (period_times E b hb (a / b) (t + a % b)) ∙ ap E (omega (arith, div-add-mod' a b)) ∙ ha t

    lt : a % b < b
    lt = mod-lt a pb

    at : Dec (a % b ≡ 0) → (a % b < fuel → 0 < a % b → Period E b → Period E (a % b) → Common E b (a % b)) → Common E a b
    at (yes e) rec = record { g = b; positive = pb; left = dvd_of_mod-eq-zero b e; right = dvd_refl b; period = hb }
    at (no ne) rec = up (rec (omega (arith, lt)) (omega arith) hb rest)
      where
        up : Common E b (a % b) → Common E a b
        up c = record { g = c.g; positive = c.positive; left = (dvd-mod_iff c.g c.left).0 c.right; right = c.left; period = c.period }

-- ---- the circle

-- Y repeats at the distance δ, but not from position 0 or to it
pub record Repeats (n δ : ℕ) (Y : ℕ → ℕ) : Type 0 where
  pub up : (u : ℕ) → 0 < u → u + δ < n → Y u ≡ Y (u + δ)
  pub over : (u : ℕ) → u < n → n < u + δ → Y u ≡ Y (u + δ - n)

-- Y is 0 on the first g positions after 0, or on the last g
pub data Window (n g : ℕ) (Y : ℕ → ℕ) : Type 0 where
  first : ((u : ℕ) → 0 < u → u ≤ g → Y u ≡ 0) → Window n g Y
  last : ((u : ℕ) → u < n → n ≤ u + g → Y u ≡ 0) → Window n g Y

-- the value that position 0 is given: that of position δ
ext : ℕ → (ℕ → ℕ) → ℕ → ℕ
ext δ Y zero = Y δ
ext δ Y (suc u) = Y (suc u)

ext_pos : (δ : ℕ) (Y : ℕ → ℕ) (u : ℕ) → 0 < u → ext δ Y u ≡ Y u
unfolding ext
ext_pos δ Y zero h = absurd (not-suc-le-zero h)
ext_pos δ Y (suc u) h = refl

ext_zero : (δ : ℕ) (Y : ℕ → ℕ) (u : ℕ) → u ≡ 0 → ext δ Y u ≡ Y δ
unfolding ext
ext_zero δ Y u e = ap (ext δ Y) e

module _ (n δ : ℕ) (Y : ℕ → ℕ) (pδ : 0 < δ) (lδ : δ < n) (rep : Repeats n δ Y) where
  -- the multiples δ, 2 δ, .. come to n - δ before 0
  multiples : (k : ℕ) → ((0 < suc k * δ % n) × (Y (suc k * δ % n) ≡ Y δ)) ⊎ (Y (n - δ) ≡ Y δ)
  multiples zero = inl (subst (λ (x : ℕ). 0 < x) (sym one) pδ, ap Y one)
    where
      one : 1 * δ % n ≡ δ
      one = ap (λ (x : ℕ). x % n) (one-mul δ) ∙ mod-eq_of_lt lδ
  multiples (suc k) = go (multiples k)
    where
      m : ℕ
      m = suc k * δ % n

      lm : m < n
      lm = mod-lt (suc k * δ) (omega arith)

      next : suc (suc k) * δ % n ≡ (m + δ) % n
      next = ap (λ (x : ℕ). x % n) (suc-mul (suc k) δ) ∙ sym (mod-add-mod (suc k * δ) n δ)

      Goal : Type 0
      Goal = ((0 < suc (suc k) * δ % n) × (Y (suc (suc k) * δ % n) ≡ Y δ)) ⊎ (Y (n - δ) ≡ Y δ)

      to : (x : ℕ) → (m + δ) % n ≡ x → 0 < x → Y m ≡ Y x → Y m ≡ Y δ → Goal
      to x e px q r = inl (subst (λ (z : ℕ). 0 < z) (sym (next ∙ e)) px, ap Y (next ∙ e) ∙ sym q ∙ r)

      move : 0 < m → Y m ≡ Y δ → Side (m + δ) n → Goal
      move pm q (below l) = to (m + δ) (mod-eq_of_lt l) (omega arith) (rep.up m pm l) q
      move pm q (same e) = inr (ap Y (omega arith) ∙ q)
      move pm q (above l) = to (m + δ - n) (wrap n (m + δ) (omega arith) (omega (arith, lm))) (omega arith) (rep.over m lm l) q

      go : ((0 < m) × (Y m ≡ Y δ)) ⊎ (Y (n - δ) ≡ Y δ) → Goal
      go (inl h) = move h.0 h.1 (side (m + δ) n)
      go (inr h) = inr h

  -- so the two neighbours of position 0 are equal
  ends : Y (n - δ) ≡ Y δ
  ends = go (multiples (n - 1))
    where
      e : suc (n - 1) * δ % n ≡ 0
      e = ap (λ (x : ℕ). x * δ % n) (omega arith) ∙ mul-mod_right n δ

      go : ((0 < suc (n - 1) * δ % n) × (Y (suc (n - 1) * δ % n) ≡ Y δ)) ⊎ (Y (n - δ) ≡ Y δ) → Y (n - δ) ≡ Y δ
      go (inl h) = absurd (omega (arith, e, h.0))
      go (inr h) = h

  -- Y all round, position 0 too: it repeats at n and at δ
  round : ℕ → ℕ
  round t = ext δ Y (t % n)

  round_n : Period round n
  unfolding round
  round_n t = ap (ext δ Y) (add-mod_right t n)

  round_δ : Period round δ
  unfolding round
  round_δ t = ap (ext δ Y) (sym (mod-add-mod t n δ)) ∙ move (t % n) (mod-lt t (omega arith)) (ℕ_discrete (t % n) 0) (side (t % n + δ) n)
    where
      move : (m : ℕ) → m < n → Dec (m ≡ 0) → Side (m + δ) n → ext δ Y ((m + δ) % n) ≡ ext δ Y m
      move m lm (yes e) s =
          ap (ext δ Y) (mod-eq_of_lt {n = m + δ} (omega arith)) ∙ ext_pos δ Y (m + δ) (omega arith) ∙ ap Y (omega arith) ∙ sym (ext_zero δ Y m e)
      move m lm (no z) (below l) =
          ap (ext δ Y) (mod-eq_of_lt l) ∙ ext_pos δ Y (m + δ) (omega arith) ∙ sym (rep.up m (omega arith) l) ∙ sym (ext_pos δ Y m (omega arith))
      move m lm (no z) (same e) =
          ext_zero δ Y ((m + δ) % n) (ap (λ (x : ℕ). x % n) e ∙ mod_self n) ∙ sym ends ∙ ap Y (omega arith) ∙ sym (ext_pos δ Y m (omega arith))
      move m lm (no z) (above l) =
          ap (ext δ Y) (wrap n (m + δ) (omega arith) (omega arith)) ∙ ext_pos δ Y (m + δ - n) (omega arith) ∙ sym (rep.over m lm l) ∙ sym (ext_pos δ Y m (omega arith))

  round_at : (u : ℕ) → 0 < u → u < n → round u ≡ Y u
  unfolding round
  round_at u pu lu = ap (ext δ Y) (mod-eq_of_lt lu) ∙ ext_pos δ Y u pu

  -- zero everywhere, where every divisor of n up to δ has its window
  pub repeats_nil : ((g : ℕ) → 0 < g → g ≤ δ → n % g ≡ 0 → Window n g Y) → (u : ℕ) → 0 < u → u < n → Y u ≡ 0
  repeats_nil window u pu lu = go (common round (suc δ) n δ (omega arith) pδ round_n round_δ)
    where
      go : Common round n δ → Y u ≡ 0
      go c = sym (round_at u pu lu) ∙ period_mod round c.g c.period u ∙ at (window c.g c.positive lg (mod-eq-zero_of_dvd c.g c.left))
        where
          lg : c.g ≤ δ
          lg = le_of_dvd pδ c.right

          m : ℕ
          m = u % c.g

          lm : m < c.g
          lm = mod-lt u c.positive

          early : ((v : ℕ) → 0 < v → v ≤ c.g → Y v ≡ 0) → Dec (m ≡ 0) → round m ≡ 0
          early w (yes e) = ap round e ∙ sym (c.period 0) ∙ round_at (0 + c.g) (omega (arith, c.positive)) (omega (arith, lg)) ∙ w (0 + c.g) (omega (arith, c.positive)) (omega arith)
          early w (no z) = round_at m (omega arith) (omega (arith, lm, lg)) ∙ w m (omega arith) (omega (arith, lm))

          at : Window n c.g Y → round m ≡ 0
          at (first w) = early w (ℕ_discrete m 0)
          at (last w) = late (n / c.g) (div-mul_cancel c.g c.left)
            where
              late : (k : ℕ) → k * c.g ≡ n → round m ≡ 0
              late zero e = absurd (omega (arith, zero-mul c.g))
              late (suc k) e =
                  sym (period_times round c.g c.period k m)
                  ∙ round_at (m + k * c.g) (omega (arith, suc-mul k c.g, lm, lg)) (omega (arith, suc-mul k c.g, lm, lg))
                  ∙ w (m + k * c.g) (omega (arith, suc-mul k c.g, lm, lg)) (omega (arith, suc-mul k c.g, lm, lg))
