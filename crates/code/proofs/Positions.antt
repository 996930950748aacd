-- Rows by their positions: in the shift family row i stands at position s + (r - 1 - i), and the place of strip c at position u is on the
-- diagonal d with (d + u) mod n = c. A lost pair is decided where no divisor of n has all its multiples among the rows' positions.
-- Assumes nothing.
-- value r s y u == what stands at position u where row i holds y i; 0 where no row stands
use Rattle.std.specs.Prelude.{ℕ, ◌+◌, ◌-◌, ◌%◌, ◌<◌, ◌≤◌, ◌≡◌, ◌≢◌, ◌⊎◌, eqb}
use Rattle.std.proofs.Math.Path.{refl, sym, ap}
use Rattle.std.proofs.Common.{◌∙◌, inl, inr, arith}
use Rattle.std.proofs.Math.Decide.{ℕ_discrete}
use Rattle.code.specs.Sum.{only}
use Rattle.code.specs.SumLaws.{sum_to_ext, sum_to_nil, sum_to_one, only_yes, only_no}
use Rattle.code.specs.Code.{Decided}
use Rattle.code.specs.Layout.{code, pair}
use Rattle.code.specs.AlongLaws.{strip_sum}
use Rattle.code.specs.Pair.{Matched, Cancelled, decided_two, decided_one}
use Rattle.code.specs.Circle.{mod_cancel, to_mod, back}
use Rattle.code.specs.Shift.{diagonal, meets, shift}
use Rattle.code.proofs.ShiftLaws.{shift_fair}
use Rattle.code.specs.Positions.{position, value, Clear}
use Rattle.code.specs.Periods.{Repeats, Window, first, last, repeats_nil}

-- ---- positions

-- rows stand from position s
pub position_low : (r s i : ℕ) → s ≤ position r s i
unfolding position
position_low r s i = omega arith

-- to position s + r - 1
pub position_high : (r s i : ℕ) → i < r → position r s i < s + r
unfolding position
position_high r s i li = omega arith

-- row i is the only one at its position
pub position_one : (r s i k : ℕ) → i < r → k < r → position r s i ≡ position r s k → i ≡ k
unfolding position
position_one r s i k li lk e = omega arith

-- the row at a position
pub position_of : (r s u : ℕ) → s ≤ u → u < s + r → position r s (s + r - 1 - u) ≡ u
unfolding position
position_of r s u l h = omega arith

module _ (n r s i : ℕ) (li : i < r) where
  -- the strip where row i meets diagonal d
  position_meets : (d : ℕ) → meets n r s i d ≡ (d + position r s i) % n
  unfolding meets position
  position_meets d = ap (λ (x : ℕ). x % n) (omega arith)

  -- the strip at a diagonal and the position of row i
  pub strip_at : (c d : ℕ) → c < n → diagonal n r s i c ≡ d → (d + position r s i) % n ≡ c
  strip_at c d lc e = sym (position_meets d) ∙ ap (meets n r s i) (sym e) ∙ (shift_fair n r s (omega arith)).meets_diagonal i c li lc

  -- and the diagonal at a strip
  pub diagonal_at : (c d : ℕ) → d < n → (d + position r s i) % n ≡ c → diagonal n r s i c ≡ d
  diagonal_at c d ld e = ap (diagonal n r s i) (sym e ∙ sym (position_meets d)) ∙ (shift_fair n r s (omega arith)).diagonal_meets i d li ld

-- ---- values

module _ (r s : ℕ) (y : ℕ → ℕ) where
  -- at its position the row gives the value
  pub value_row : (i : ℕ) → i < r → value r s y (position r s i) ≡ y i
  unfolding value
  value_row i li =
      sum_to_one r (λ k. only (eqb (position r s k) (position r s i)) (y k)) i li
      (λ k lk ne. only_no (position r s k) (position r s i) (y k) (λ e. ne (position_one r s k i lk li e)))
      ∙ only_yes (position r s i) (position r s i) (y i) refl

  -- below the rows there is none
  pub value_low : (u : ℕ) → u < s → value r s y u ≡ 0
  unfolding value
  value_low u l = sum_to_nil r _ (λ i li. only_no (position r s i) u (y i) (omega (arith, position_low r s i)))

  -- nor above
  pub value_high : (u : ℕ) → s + r ≤ u → value r s y u ≡ 0
  unfolding value
  value_high u l = sum_to_nil r _ (λ i li. only_no (position r s i) u (y i) (omega (arith, position_high r s i li)))

  -- what strip c has on diagonal d
  pub value_strip : (n c d u : ℕ) → r + s ≤ n → c < n → d < n → u < n → (d + u) % n ≡ c → strip_sum (shift n r s) y c d ≡ value r s y u
  unfolding strip_sum value
  value_strip n c d u fits lc ld lu e = sum_to_ext r _ _ (λ i li. at i li (ℕ_discrete (position r s i) u))
    where
      at : (i : ℕ) → i < r → Dec (position r s i ≡ u) → only (eqb (diagonal n r s i c) d) (y i) ≡ only (eqb (position r s i) u) (y i)
      at i li (yes q) =
          only_yes (diagonal n r s i c) d (y i) (diagonal_at n r s i li c d ld (ap (λ (x : ℕ). (d + x) % n) q ∙ e))
          ∙ sym (only_yes (position r s i) u (y i) q)
      at i li (no q) =
          only_no (diagonal n r s i c) d (y i)
          (λ p. q (mod_cancel n d (position r s i) u ld (omega (arith, position_high r s i li)) lu (strip_at n r s i li c d lc p ∙ sym e)))
          ∙ sym (only_no (position r s i) u (y i) q)

-- ---- what is decided

module _ (n r s : ℕ) (ps : 0 < s) (fits : r + s ≤ n) where
  -- two data strips: the values repeat at their distance
  matched_repeats : (a b : ℕ) → a < b → b < n → (y : ℕ → ℕ) → Matched (shift n r s) a b y → Repeats n (b - a) (value r s y)
  matched_repeats a b l lb y m = record { up = up; over = over }
    where
      at : (u v d : ℕ) → d < n → u < n → v < n → (d + u ≡ a) ⊎ (d + u ≡ a + n) → (d + v ≡ b) ⊎ (d + v ≡ b + n) → d ≢ a → d ≢ b
          → value r s y u ≡ value r s y v
      at u v d ld lu lv eu ev na nb =
          sym (value_strip r s y n a d u fits (omega arith) ld lu (to_mod n (d + u) a (omega arith) eu))
          ∙ m.each d ld na nb
          ∙ value_strip r s y n b d v fits lb ld lv (to_mod n (d + v) b lb ev)

      up : (u : ℕ) → 0 < u → u + (b - a) < n → value r s y u ≡ value r s y (u + (b - a))
      up u pu lu = go (back n a u (omega arith) (omega arith))
        where
          go : (d : ℕ) × (d < n) × ((d + u ≡ a) ⊎ (d + u ≡ a + n)) → value r s y u ≡ value r s y (u + (b - a))
          go (d, ld, inl e) = at u (u + (b - a)) d ld (omega arith) lu (inl e) (inl (omega arith)) (omega arith) (omega arith)
          go (d, ld, inr e) = at u (u + (b - a)) d ld (omega arith) lu (inr e) (inr (omega arith)) (omega arith) (omega arith)

      over : (u : ℕ) → u < n → n < u + (b - a) → value r s y u ≡ value r s y (u + (b - a) - n)
      over u lu h = go (back n a u (omega arith) lu)
        where
          go : (d : ℕ) × (d < n) × ((d + u ≡ a) ⊎ (d + u ≡ a + n)) → value r s y u ≡ value r s y (u + (b - a) - n)
          go (d, ld, inl e) = absurd (omega arith)
          go (d, ld, inr e) = at u (u + (b - a) - n) d ld lu (omega arith) (inr e) (inl (omega arith)) (omega arith) (omega arith)

  -- two data strips are decided where no divisor up to their distance is in the way
  pub decided_data : (a b : ℕ) → a < b → b < n → Clear n r s (b - a) → Decided (code (shift n r s)) (pair a b)
  decided_data a b l lb clear = decided_two (shift n r s) (shift_fair n r s (omega arith)) a b l lb key
    where
      window : (y : ℕ → ℕ) (g : ℕ) → (g < s) ⊎ (g + r + s ≤ n) → Window n g (value r s y)
      window y g (inl h) = first (λ u pu lu. value_low r s y u (omega arith))
      window y g (inr h) = last (λ u lu hu. value_high r s y u (omega arith))

      key : (y : ℕ → ℕ) → Matched (shift n r s) a b y → (i : ℕ) → i < r → y i ≡ 0
      key y m i li =
          sym (value_row r s y i li)
          ∙ repeats_nil n (b - a) (value r s y) (omega arith) (omega arith) (matched_repeats a b l lb y m)
          (λ g pg lg dg. window y g (clear.each g pg lg dg))
          (position r s i) (omega (arith, position_low r s i)) (omega (arith, position_high r s i li))

  -- a data strip and strip n are decided
  pub decided_parity : (a : ℕ) → a < n → Decided (code (shift n r s)) (pair a n)
  decided_parity a la = decided_one (shift n r s) (shift_fair n r s (omega arith)) a la key
    where
      key : (y : ℕ → ℕ) → Cancelled (shift n r s) a y → (i : ℕ) → i < r → y i ≡ 0
      key y c i li = sym (value_row r s y i li) ∙ go (back n a (position r s i) la lu)
        where
          lu : position r s i < n
          lu = omega (arith, position_high r s i li)

          at : (d : ℕ) → d < n → (d + position r s i ≡ a) ⊎ (d + position r s i ≡ a + n) → d ≢ a → value r s y (position r s i) ≡ 0
          at d ld e na = sym (value_strip r s y n a d (position r s i) fits la ld lu (to_mod n (d + position r s i) a la e)) ∙ c.each d ld na

          go : (d : ℕ) × (d < n) × ((d + position r s i ≡ a) ⊎ (d + position r s i ≡ a + n)) → value r s y (position r s i) ≡ 0
          go (d, ld, inl e) = at d ld (inl e) (omega (arith, position_low r s i))
          go (d, ld, inr e) = at d ld (inr e) (omega (arith, lu))
