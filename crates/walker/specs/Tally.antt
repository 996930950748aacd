-- Sums of numbers, and how they compare. Assumes nothing.
-- total n f == f 0 + .. + f (n - 1)
use Rattle.std.specs.Prelude.{ℕ, zero, suc, ◌+◌, ◌<◌, ◌≤◌, ◌≡◌, ◌≢◌}
use Rattle.std.proofs.Common.{subst, arith}
use Rattle.std.proofs.Math.Decide.{ℕ_discrete}

unfoldable pub total : ℕ → (ℕ → ℕ) → ℕ
total zero f = 0
total (suc n) f = total n f + f n

pub total_le : (n : ℕ) (f g : ℕ → ℕ) → ((i : ℕ) → i < n → f i ≤ g i) → total n f ≤ total n g
unfolding total
total_le zero f g h = omega arith
total_le (suc n) f g h = omega (arith, total_le n f g (λ i l. h i (omega arith)), h n (omega arith))

-- one term falls and none grows
pub total_less : (n : ℕ) (f g : ℕ → ℕ) → ((i : ℕ) → i < n → f i ≤ g i) → (p : ℕ) → p < n → f p < g p → total n f < total n g
unfolding total
total_less zero f g h p lp l = absurd (omega arith)
total_less (suc n) f g h p lp l = go (ℕ_discrete p n) (λ k. total_less n f g (λ i li. h i (omega arith)) p k l)
  where
    go : Dec (p ≡ n) → (p < n → total n f < total n g) → total n f + f n < total n g + g n
    go (yes e) rec = omega (arith, total_le n f g (λ i li. h i (omega arith)), subst (λ (x : ℕ). f x < g x) e l)
    go (no ne) rec = omega (arith, rec (omega arith), h n (omega arith))

pub total_term : (n : ℕ) (f : ℕ → ℕ) (p : ℕ) → p < n → f p ≤ total n f
unfolding total
total_term zero f p lp = absurd (omega arith)
total_term (suc n) f p lp = go (ℕ_discrete p n) (total_term n f p)
  where
    go : Dec (p ≡ n) → (p < n → f p ≤ total n f) → f p ≤ total n f + f n
    go (yes e) rec = subst (λ (x : ℕ). f x ≤ total n f + f n) (omega arith) (last (f n))
      where
        last : (v : ℕ) → v ≤ total n f + v
        last v = omega arith
    go (no ne) rec = omega (arith, rec (omega arith))

-- terms that are at most 1, and at least 1
pub total_most : (n : ℕ) (f : ℕ → ℕ) → ((i : ℕ) → i < n → f i ≤ 1) → total n f ≤ n
unfolding total
total_most zero f h = omega arith
total_most (suc n) f h = omega (arith, total_most n f (λ i l. h i (omega arith)), h n (omega arith))

pub total_least : (n : ℕ) (f : ℕ → ℕ) → ((i : ℕ) → i < n → 1 ≤ f i) → n ≤ total n f
unfolding total
total_least zero f h = omega arith
total_least (suc n) f h = omega (arith, total_least n f (λ i l. h i (omega arith)), h n (omega arith))

-- at most one term, and at most two, are not 0
total_none : (n : ℕ) (f : ℕ → ℕ) → ((i : ℕ) → i < n → f i ≡ 0) → total n f ≡ 0
unfolding total
total_none zero f h = omega arith
total_none (suc n) f h = omega (arith, total_none n f (λ i l. h i (omega arith)), h n (omega arith))

total_one : (n : ℕ) (f : ℕ → ℕ) (m p : ℕ) → ((i : ℕ) → f i ≤ m) → ((i : ℕ) → i < n → i ≢ p → f i ≡ 0) → total n f ≤ m
unfolding total
total_one zero f m p u h = omega arith
total_one (suc n) f m p u h = go (ℕ_discrete n p) (total_one n f m p u (λ i l. h i (omega arith)))
  where
    go : Dec (n ≡ p) → total n f ≤ m → total n f + f n ≤ m
    go (yes e) rec = omega (arith, total_none n f (λ i l. h i (omega arith) (omega arith)), u n)
    go (no ne) rec = omega (arith, h n (omega arith) ne)

pub total_two : (n : ℕ) (f : ℕ → ℕ) (m p q : ℕ) → ((i : ℕ) → f i ≤ m) → ((i : ℕ) → i < n → i ≢ p → i ≢ q → f i ≡ 0) → total n f ≤ m + m
unfolding total
total_two zero f m p q u h = omega arith
total_two (suc n) f m p q u h = go (ℕ_discrete n p) (ℕ_discrete n q) (total_two n f m p q u (λ i l. h i (omega arith)))
  where
    go : Dec (n ≡ p) → Dec (n ≡ q) → total n f ≤ m + m → total n f + f n ≤ m + m
    go (yes e) d rec = omega (arith, total_one n f m q u (λ i l. h i (omega arith) (omega arith)), u n)
    go (no z) (yes e) rec = omega (arith, total_one n f m p u (λ i l ne. h i (omega arith) ne (omega arith)), u n)
    go (no z) (no y) rec = omega (arith, h n (omega arith) z y)
