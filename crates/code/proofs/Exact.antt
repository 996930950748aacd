-- THE BOUND IS EXACT: a shape is good exactly when no pair of its strips fails, and where it is not, the first pair that fails has a name,
-- (0, 1) where r > n - s, else (0, g) for the smallest divisor g of n with all its multiples below n among the rows' positions. Assumes nothing.
use Rattle.std.specs.Prelude.{ℕ, zero, suc, ◌+◌, ◌-◌, ◌%◌, ◌<◌, ◌≤◌, ◌≡◌, ◌≢◌, ◌⊎◌, ◌↔◌}
use Rattle.std.proofs.Common.{sym, subst, inl, inr, not-suc-le-zero, arith}
use Rattle.std.proofs.Math.Decide.{ℕ_discrete, dec_lt, dec_le}
use Rattle.code.specs.Code.{Fails, Decided}
use Rattle.code.specs.CodeLaws.{not_both}
use Rattle.code.specs.Layout.{Layout, code, pair}
use Rattle.code.specs.Shift.{shift}
use Rattle.code.specs.Bound.{q, Good, wide, narrow, Before, FirstPair, Order, first, equal, second}
use Rattle.code.specs.Divisor.{WidestDivisor, q_widest}
use Rattle.code.proofs.Positions.{decided_data, decided_parity}
use Rattle.code.specs.Positions.{Clear, Closed}
use Rattle.code.proofs.Failing.{fails_over, fails_at}

-- a shape is good or not
pub good? : (n r s : ℕ) → Dec (Good n r s)
good? n r s = go (dec_lt (q n) s) (dec_le r (n - s)) (dec_le (r + q n + s) n)
  where
    go : Dec (q n < s) → Dec (r ≤ n - s) → Dec (r + q n + s ≤ n) → Dec (Good n r s)
    go (yes l) (yes h) x = yes (wide l h)
    go (yes l) (no h) x = no bad
      where
        bad : Good n r s → ⊥
        bad (wide a b) = h b
        bad (narrow a b) = omega arith
    go (no l) x (yes h) = yes (narrow (omega arith) h)
    go (no l) x (no h) = no bad
      where
        bad : Good n r s → ⊥
        bad (wide a b) = l a
        bad (narrow a b) = h b

-- every pair of a good shape is decided
pub good_decided : (n r s : ℕ) → 0 < s → s < n → Good n r s → (a b : ℕ) → a < b → b ≤ n → Decided (code (shift n r s)) (pair a b)
good_decided n r s ps ls good a b l lb = at (ℕ_discrete b n)
  where
    fits : Good n r s → r + s ≤ n
    fits (wide p h) = omega arith
    fits (narrow p h) = omega arith

    w : WidestDivisor n (q n)
    w = q_widest n (omega arith)

    clear : b ≢ n → Good n r s → Clear n r s (b - a)
    clear ne (wide p h) = record { each = λ g pg lg dg. inl (omega (arith, w.most g pg (omega arith) dg)) }
    clear ne (narrow p h) = record { each = λ g pg lg dg. inr (omega (arith, w.most g pg (omega arith) dg)) }

    at : Dec (b ≡ n) → Decided (code (shift n r s)) (pair a b)
    at (yes e) = subst (λ (x : ℕ). Decided (code (shift n r s)) (pair a x)) (sym e) (decided_parity n r s ps (fits good) a (omega arith))
    at (no ne) = decided_data n r s ps (fits good) a b l (omega arith) (clear ne good)

-- ---- first pairs

-- which of the three
pub order : (a b c d : ℕ) → Order a b c d
order a b c d = go (dec_lt a c) (dec_lt c a) (dec_lt b d) (dec_lt d b)
  where
    go : Dec (a < c) → Dec (c < a) → Dec (b < d) → Dec (d < b) → Order a b c d
    go (yes p) u v w = first (inl p)
    go (no p) (yes u) v w = second (inl u)
    go (no p) (no u) (yes v) w = first (inr (omega arith, v))
    go (no p) (no u) (no v) (yes w) = second (inr (omega arith, w))
    go (no p) (no u) (no v) (no w) = equal (omega arith) (omega arith)

-- there is one
pub first_one : (L : Layout) (a b c d : ℕ) → FirstPair L a b → FirstPair L c d → (a ≡ c) × (b ≡ d)
first_one L a b c d x y = go (order a b c d)
  where
    go : Order a b c d → (a ≡ c) × (b ≡ d)
    go (first h) = absurd (not_both (code L) (pair a b) (y.before a b x.order x.within h) x.fails)
    go (equal p q) = (p, q)
    go (second h) = absurd (not_both (code L) (pair c d) (x.before c d y.order y.within h) y.fails)

-- where r > n - s
pub over_first : (n r s : ℕ) → 2 ≤ n → s < n → n < r + s → FirstPair (shift n r s) 0 1
over_first n r s h ls over = record { order = omega arith; within = omega arith; fails = fails_over n r s h ls over; before = none }
  where
    none : (c d : ℕ) → c < d → d ≤ n → Before c d 0 1 → Decided (code (shift n r s)) (pair c d)
    none c d l ld (inl x) = absurd (omega arith)
    none c d l ld (inr x) = absurd (omega arith)

-- else by the smallest divisor
pub closed_first : (n r s g : ℕ) → 0 < s → r + s ≤ n → Closed n r s g → ((e : ℕ) → e < g → Closed n r s e → ⊥) → FirstPair (shift n r s) 0 g
closed_first n r s g ps fits k least = record { order = k.positive; within = omega arith; fails = fails_at n r s g fits k; before = before }
  where
    clear : (e : ℕ) → e < g → Clear n r s e
    clear e le = record { each = λ d pd ld dd. go d pd ld dd (dec_lt d s) (dec_le (d + r + s) n) }
      where
        go : (d : ℕ) → 0 < d → d ≤ e → n % d ≡ 0 → Dec (d < s) → Dec (d + r + s ≤ n) → (d < s) ⊎ (d + r + s ≤ n)
        go d pd ld dd (yes x) y = inl x
        go d pd ld dd (no x) (yes y) = inr y
        go d pd ld dd (no x) (no y) =
            absurd (least d (omega arith) (record { positive = pd; proper = omega arith; divides = dd; first = omega arith; last = omega arith }))

    before : (c d : ℕ) → c < d → d ≤ n → Before c d 0 g → Decided (code (shift n r s)) (pair c d)
    before c d l ld (inl x) = absurd (omega arith)
    before c d l ld (inr x) = decided_data n r s ps fits c d l (omega arith) (clear (d - c) (omega arith))

closed? : (n r s g : ℕ) → Dec (Closed n r s g)
closed? n r s g = go (dec_lt 0 g) (dec_lt g n) (ℕ_discrete (n % g) 0) (dec_le s g) (dec_lt n (g + r + s))
  where
    go : Dec (0 < g) → Dec (g < n) → Dec (n % g ≡ 0) → Dec (s ≤ g) → Dec (n < g + r + s) → Dec (Closed n r s g)
    go (yes a) (yes b) (yes c) (yes d) (yes e) = yes (record { positive = a; proper = b; divides = c; first = d; last = e })
    go (yes a) (yes b) (yes c) (yes d) (no e) = no (λ k. e k.last)
    go (yes a) (yes b) (yes c) (no d) e = no (λ k. d k.first)
    go (yes a) (yes b) (no c) d e = no (λ k. c k.divides)
    go (yes a) (no b) c d e = no (λ k. b k.proper)
    go (no a) b c d e = no (λ k. a k.positive)

-- ---- the smallest number of a kind

record Least (P : ℕ → Type 0) : Type 0 where
  it : ℕ
  holds : P it
  before : (e : ℕ) → e < it → P e → ⊥

scan : (P : ℕ → Type 0) → ((k : ℕ) → Dec (P k)) → (k : ℕ) → Least P ⊎ ((e : ℕ) → e < k → P e → ⊥)
scan P dec zero = inr (λ e l p. not-suc-le-zero l)
scan P dec (suc k) = go (scan P dec k) (dec k)
  where
    go : Least P ⊎ ((e : ℕ) → e < k → P e → ⊥) → Dec (P k) → Least P ⊎ ((e : ℕ) → e < suc k → P e → ⊥)
    go (inl x) d = inl x
    go (inr f) (yes p) = inl (record { it = k; holds = p; before = f })
    go (inr f) (no np) = inr (λ e l p. at e l p (ℕ_discrete e k))
      where
        at : (e : ℕ) → e < suc k → P e → Dec (e ≡ k) → ⊥
        at e l p (yes z) = np (subst P z p)
        at e l p (no z) = f e (omega arith) p

-- ---- the theorems

-- a shape that is not good has a first pair that fails, on strip 0
pub naming : (n r s : ℕ) → 0 < s → s < n → (Good n r s → ⊥) → (g : ℕ) × (0 < g) × (g < n) × FirstPair (shift n r s) 0 g
naming n r s ps ls bad = go (dec_lt n (r + s)) (dec_lt (q n) s)
  where
    w : WidestDivisor n (q n)
    w = q_widest n (omega arith)

    to : r + s ≤ n → Closed n r s (q n) → Least (Closed n r s) ⊎ ((e : ℕ) → e < n → Closed n r s e → ⊥)
        → (g : ℕ) × (0 < g) × (g < n) × FirstPair (shift n r s) 0 g
    to h k (inl x) = (x.it, x.holds.positive, x.holds.proper, closed_first n r s x.it ps h x.holds x.before)
    to h k (inr f) = absurd (f (q n) k.proper k)

    last : s ≤ q n → Dec (n < q n + r + s) → n < q n + r + s
    last p (yes h) = h
    last p (no h) = absurd (bad (narrow p (omega arith)))

    go : Dec (n < r + s) → Dec (q n < s) → (g : ℕ) × (0 < g) × (g < n) × FirstPair (shift n r s) 0 g
    go (yes h) x = (1, omega arith, omega arith, over_first n r s (omega arith) ls h)
    go (no h) (yes x) = absurd (bad (wide x (omega arith)))
    go (no h) (no x) =
        to (omega arith)
        (record { positive = w.positive; proper = w.proper; divides = w.divides; first = omega arith; last = last (omega arith) (dec_lt n (q n + r + s)) })
        (scan (Closed n r s) (closed? n r s) n)

-- good exactly where no pair fails
pub exact : (n r s : ℕ) → 0 < s → s < n → Good n r s ↔ ((a b : ℕ) → a < b → b ≤ n → Fails (code (shift n r s)) (pair a b) → ⊥)
exact n r s ps ls = (λ good a b l lb. not_both (code (shift n r s)) (pair a b) (good_decided n r s ps ls good a b l lb), back (good? n r s))
  where
    back : Dec (Good n r s) → ((a b : ℕ) → a < b → b ≤ n → Fails (code (shift n r s)) (pair a b) → ⊥) → Good n r s
    back (yes g) h = g
    back (no f) h = absurd (to (naming n r s ps ls f))
      where
        to : (g : ℕ) × (0 < g) × (g < n) × FirstPair (shift n r s) 0 g → ⊥
        to (g, pg, lg, x) = h 0 g pg x.within x.fails
