-- Tests that antt computes, each with what it gives: a rule over a whole table is then one computed test. Assumes nothing.
-- Test P == a test, and a proof of P where it passes    Each P l == P of each entry of the list l
use Rattle.std.specs.Prelude.{◌≡◌, Bool, true, false, List, [], ◌∷◌, ℕ, zero, suc, ◌<◌, T, ltb, eqb}
use Rattle.std.proofs.Common.{sym, subst, not-suc-le-zero, arith, eqb→eq, ltb→lt}
use Rattle.std.proofs.Math.Decide.{ℕ_discrete}

-- a test, and what it gives
pub record Test (P : Type 0) : Type 0 where
  pub passes : Bool
  pub gives : T passes → P

-- two numbers are equal
abbrev pub equal? : (a b : ℕ) → Test (a ≡ b)
equal? a b = record { passes = eqb a b; gives = eqb→eq a b }

-- one is below the other
abbrev pub less? : (a b : ℕ) → Test (a < b)
less? a b = record { passes = ltb a b; gives = ltb→lt a b }

-- what follows from what is tested
abbrev pub so? : {P Q : Type 0} → Test P → (P → Q) → Test Q
so? t f = record { passes = t.passes; gives = λ h. f (t.gives h) }

-- ---- both of two

-- the test of both
abbrev pub both : Bool → Bool → Bool
both true b = b
both false b = false

-- the first
pub both_left : (a b : Bool) → T (both a b) → T a
both_left true b t = tt
both_left false b t = t

-- the second
pub both_right : (a b : Bool) → T (both a b) → T b
both_right true b t = t
both_right false b t = absurd t

-- two tests at once
abbrev pub both? : {P Q : Type 0} → Test P → Test Q → Test (P × Q)
both? s t =
    record {
      passes = both s.passes t.passes;
      gives = λ h. (s.gives (both_left s.passes t.passes h), t.gives (both_right s.passes t.passes h));
    }

-- ---- every number below n

-- the numbers below n + 1 are n and those below n
pub last_below : {P : ℕ → Type 0} (n : ℕ) → P n × ((k : ℕ) → k < n → P k) → (k : ℕ) → k < suc n → P k
last_below {P} n h k l = go (ℕ_discrete k n)
  where
    go : Dec (k ≡ n) → P k
    go (yes e) = subst P (sym e) h.0
    go (no ne) = h.1 k (omega arith)

-- a test at every number below n
abbrev pub below? : {P : ℕ → Type 0} (n : ℕ) → ((k : ℕ) → Test (P k)) → Test ((k : ℕ) → k < n → P k)
below? zero t = record { passes = true; gives = λ h k l. absurd (not-suc-le-zero l) }
below? (suc n) t = so? (both? (t n) (below? n t)) (last_below n)

-- ---- every entry of a list

-- P of each entry
abbrev pub Each : {A : Type 0} → (A → Type 0) → List A → Type 0
Each P [] = Unit {0}
Each P (x ∷ l) = P x × Each P l

-- a test at each entry
abbrev pub each? : {A : Type 0} {P : A → Type 0} → ((x : A) → Test (P x)) → (l : List A) → Test (Each P l)
each? t [] = record { passes = true; gives = λ h. tt }
each? t (x ∷ l) = both? (t x) (each? t l)
