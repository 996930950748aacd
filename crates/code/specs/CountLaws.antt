-- Laws of counts: at how many of the numbers below m a test holds. Assumes nothing.
use Rattle.std.specs.Prelude.{◌≡◌, refl, Bool, true, false, ◌≢◌, ℕ, zero, suc, ◌+◌, ◌≤◌, ◌<◌}
use Rattle.std.proofs.Common.{sym, ap, ap₂, ◌∙◌, not-suc-le-zero, arith}
use Rattle.std.proofs.Math.Decide.{ℕ_discrete}
use Rattle.code.specs.Sum.{only}
use Rattle.code.specs.Below.{count}

pub count_same : (m : ℕ) (t u : ℕ → Bool) → ((k : ℕ) → k < m → t k ≡ u k) → count m t ≡ count m u
unfolding count
count_same zero t u h = refl
count_same (suc m) t u h = ap₂ (λ (x : ℕ) (y : Bool). x + only y 1) (count_same m t u (λ k l. h k (omega arith))) (h m (omega arith))

only_most : (t : Bool) → only t 1 ≤ 1
only_most true = omega arith
only_most false = omega arith

pub count_most : (m : ℕ) (t : ℕ → Bool) → count m t ≤ m
unfolding count
count_most zero t = omega arith
count_most (suc m) t = let h = count_most m t in let o = only_most (t m) in omega arith

-- a number where the test holds counts one more
pub count_hit : (t : ℕ → Bool) (k m : ℕ) → k < m → t k ≡ true → count k t + 1 ≤ count m t
unfolding count
count_hit t k zero l e = absurd (omega arith)
count_hit t k (suc m) l e = go (ℕ_discrete k m) (λ h. count_hit t k m h e)
  where
    go : Dec (k ≡ m) → (k < m → count k t + 1 ≤ count m t) → count k t + 1 ≤ count m t + only (t m) 1
    go (yes q) rest = rw (← q) (rw e (omega arith))
    go (no ne) rest = omega (arith, rest (omega arith))

-- numbers where it does not count nothing
pub count_past : (t : ℕ → Bool) (k m : ℕ) → k ≤ m → ((j : ℕ) → k ≤ j → j < m → t j ≡ false) → count m t ≡ count k t
unfolding count
count_past t k zero l f = let z : 0 ≡ k = omega arith in ap (λ (x : ℕ). count x t) z
count_past t k (suc m) l f = go (ℕ_discrete k (suc m)) (λ h. count_past t k m h (λ j a b. f j a (omega arith)))
  where
    go : Dec (k ≡ suc m) → (k ≤ m → count m t ≡ count k t) → count m t + only (t m) 1 ≡ count k t
    go (yes q) rest = rw q refl
    go (no ne) rest = rw (f m (omega arith) (omega arith)) (omega (arith, rest (omega arith)))

-- the count is 0 exactly if the test holds nowhere
pub count_zero : (m : ℕ) (t : ℕ → Bool) → count m t ≡ 0 → (k : ℕ) → k < m → t k ≡ false
count_zero m t z k l = go (t k) refl
  where
    go : (x : Bool) → t k ≡ x → x ≡ false
    go true e = absurd (omega (arith, count_hit t k m l e))
    go false e = refl

pub zero_count : (m : ℕ) (t : ℕ → Bool) → ((k : ℕ) → k < m → t k ≡ false) → count m t ≡ 0
unfolding count
zero_count m t f = count_past t 0 m (omega arith) (λ j a b. f j b)

-- and 1 where it holds at one number alone
pub count_one : (m : ℕ) (t : ℕ → Bool) (i : ℕ) → i < m → t i ≡ true → ((j : ℕ) → j < m → j ≢ i → t j ≡ false) → count m t ≡ 1
unfolding count
count_one zero t i l e h = absurd (not-suc-le-zero l)
count_one (suc m) t i l e h = go (ℕ_discrete i m) (λ k. count_one m t i k e (λ j lj. h j (omega arith)))
  where
    sum_of : (x y : ℕ) (b : Bool) → count m t ≡ x → only b 1 ≡ y → t m ≡ b → x + y ≡ 1 → count m t + only (t m) 1 ≡ 1
    sum_of x y b p q r z = ap₂ (λ (u v : ℕ). u + v) p (ap (λ (c : Bool). only c 1) r ∙ q) ∙ z

    go : Dec (i ≡ m) → (i < m → count m t ≡ 1) → count m t + only (t m) 1 ≡ 1
    go (yes q) rest = sum_of 0 1 true (zero_count m t (λ k lk. h k (omega arith) (λ z. omega arith))) refl (ap t (sym q) ∙ e) refl
    go (no q) rest = sum_of 1 0 false (rest (omega arith)) refl (h m (omega arith) (λ z. q (sym z))) refl
