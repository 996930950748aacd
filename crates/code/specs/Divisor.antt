-- Laws of the bound's divisors: pr n is the smallest prime divisor of n, and q n, n divided by it, is the largest divisor below n.
-- Assumes nothing.
use Rattle.std.specs.Prelude.{ℕ, zero, suc, ◌+◌, ◌*◌, ◌/◌, ◌%◌, ◌<◌, ◌≤◌, ◌≡◌, refl, Bool, true, false, eqb}
use Rattle.std.proofs.Common.{sym, ap, ◌∙◌, le-div_iff_mul-le, mul-le-mul_left, zero-mul, one-mul, arith, eqb-true}
use Rattle.std.proofs.Math.Nat.{mod_self, dvd_trans, dvd_of_mod-eq-zero, mod-eq-zero_of_dvd, le_of_dvd, div-mul_cancel, div-lt_self, mul-mod_right}
use Rattle.std.proofs.Math.Decide.{ℕ_discrete, dec_le}
use Rattle.std.proofs.lemmas.Bool.{eqb-false}
use Rattle.code.specs.Sum.{pick}
use Rattle.code.specs.Bound.{searched, pr, q}

-- p is the smallest divisor of n above 1, and prime
pub record LeastDivisor (n p : ℕ) : Type 0 where
  pub above : 1 < p
  pub divides : n % p ≡ 0
  pub least : (d : ℕ) → 1 < d → n % d ≡ 0 → p ≤ d
  pub prime : (d : ℕ) → 1 < d → p % d ≡ 0 → d ≡ p

-- w is the largest divisor of n below n
pub record WidestDivisor (n w : ℕ) : Type 0 where
  pub positive : 0 < w
  pub proper : w < n
  pub divides : n % w ≡ 0
  pub most : (d : ℕ) → 0 < d → d < n → n % d ≡ 0 → d ≤ w

-- ---- the smallest

-- p divides n, and nothing from 2 up to p does
record Found (n p : ℕ) : Type 0 where
  above : 1 < p
  divides : n % p ≡ 0
  lower : (d : ℕ) → 1 < d → d < p → n % d ≡ 0 → ⊥

searched_found : (f d n : ℕ) → 1 < d → 1 < n → n ≤ d + f → ((k : ℕ) → 1 < k → k < d → n % k ≡ 0 → ⊥) → Found n (searched f d n)
unfolding searched
searched_found zero d n ld ln h below = record { above = ln; divides = mod_self n; lower = λ k lo hi. below k lo (omega arith) }
searched_found (suc f) d n ld ln h below = go (searched_found f (d + 1) n (omega arith) ln (omega arith)) (eqb (n % d) 0) refl
  where
    go : (((k : ℕ) → 1 < k → k < d + 1 → n % k ≡ 0 → ⊥) → Found n (searched f (d + 1) n)) → (t : Bool) → eqb (n % d) 0 ≡ t
        → Found n (pick t d (searched f (d + 1) n))
    go rest true e = record { above = ld; divides = eqb-true (n % d) 0 e; lower = below }
    go rest false e = rest (λ k lo hi z. last k lo hi z (ℕ_discrete k d))
      where
        last : (k : ℕ) → 1 < k → k < d + 1 → n % k ≡ 0 → Dec (k ≡ d) → ⊥
        last k lo hi z (yes p) = eqb-false (n % d) 0 e (ap (λ (m : ℕ). n % m) (sym p) ∙ z)
        last k lo hi z (no p) = below k lo (omega arith) z

found_least : (n p : ℕ) → Found n p → LeastDivisor n p
found_least n p f = record { above = f.above; divides = f.divides; least = least; prime = λ d l e. prime d l e (le_of_dvd (omega arith) (dvd_of_mod-eq-zero d e)) }
  where
    least : (d : ℕ) → 1 < d → n % d ≡ 0 → p ≤ d
    least d l e = go (dec_le p d)
      where
        go : Dec (p ≤ d) → p ≤ d
        go (yes h) = h
        go (no h) = absurd (f.lower d l (omega arith) e)

    -- a divisor of p divides n
    prime : (d : ℕ) → 1 < d → p % d ≡ 0 → d ≤ p → d ≡ p
    prime d l e h = omega (arith, least d l (mod-eq-zero_of_dvd d (dvd_trans d (dvd_of_mod-eq-zero d e) (dvd_of_mod-eq-zero p f.divides))))

-- pr n is the smallest prime divisor of n
pub pr_least : (n : ℕ) → 2 ≤ n → LeastDivisor n (pr n)
unfolding pr
pr_least n h = found_least n (searched n 2 n) (searched_found n 2 n (omega arith) h (omega arith) (λ k lo hi. absurd (omega arith)))

-- ---- the largest

-- n over its smallest divisor above 1
pub widest_of_least : (n p : ℕ) → 2 ≤ n → LeastDivisor n p → WidestDivisor n (n / p)
widest_of_least n p h l =
    record {
      positive = pos (ℕ_discrete (n / p) 0);
      proper = div-lt_self (omega arith) l.above;
      divides = ap (λ (x : ℕ). x % (n / p)) (sym whole) ∙ mul-mod_right (n / p) p;
      most = λ d pd ld dd. most d pd ld (n / d) (div-mul_cancel d (dvd_of_mod-eq-zero d dd));
    }
  where
    whole : n / p * p ≡ n
    whole = div-mul_cancel p (dvd_of_mod-eq-zero p l.divides)

    pos : Dec (n / p ≡ 0) → 0 < n / p
    pos (yes e) = absurd (omega (arith, sym whole ∙ ap (λ (x : ℕ). x * p) e ∙ zero-mul p))
    pos (no z) = omega arith

    most : (d : ℕ) → 0 < d → d < n → (e : ℕ) → e * d ≡ n → d ≤ n / p
    most d pd ld zero q = absurd (omega (arith, zero-mul d))
    most d pd ld (suc zero) q = absurd (omega (arith, one-mul d))
    most d pd ld (suc (suc e)) q =
        (le-div_iff_mul-le {k = p} {x = d} {y = n} (omega (arith, l.above))).1
        (omega (arith, mul-le-mul_left d (l.least (suc (suc e)) (omega arith) (ap (λ (x : ℕ). x % suc (suc e)) (sym q) ∙ mul-mod_right (suc (suc e)) d))))

-- q n is the largest divisor of n below n
pub q_widest : (n : ℕ) → 2 ≤ n → WidestDivisor n (q n)
unfolding q
q_widest n h = widest_of_least n (pr n) h (pr_least n h)

-- and n divided by its smallest prime divisor
pub q_times : (n : ℕ) → 2 ≤ n → q n * pr n ≡ n
unfolding q
q_times n h = div-mul_cancel (pr n) (dvd_of_mod-eq-zero (pr n) (pr_least n h).divides)
