-- Laws of tests on the numbers below m: whether some holds, and the first that does. Assumes nothing.
use Rattle.std.specs.Prelude.{◌≡◌, refl, Bool, true, false, ◌⊎◌, ℕ, zero, suc, ◌≤◌, ◌<◌}
use Rattle.std.proofs.Common.{sym, ap, ap₂, ◌∙◌, inl, inr, not-suc-le-zero, arith}
use Rattle.std.proofs.Math.Decide.{ℕ_discrete}
use Rattle.code.specs.Sum.{pick}
use Rattle.code.specs.SumLaws.{clash}
use Rattle.code.specs.Below.{some, first}

-- ---- some

pub some_same : (m : ℕ) (t u : ℕ → Bool) → ((k : ℕ) → k < m → t k ≡ u k) → some m t ≡ some m u
unfolding some
some_same zero t u h = refl
some_same (suc m) t u h = ap₂ (λ (x y : Bool). pick x true y) (h m (omega arith)) (some_same m t u (λ k l. h k (omega arith)))

pub none_some : (m : ℕ) (t : ℕ → Bool) → ((k : ℕ) → k < m → t k ≡ false) → some m t ≡ false
unfolding some
none_some zero t h = refl
none_some (suc m) t h = ap (λ (x : Bool). pick x true (some m t)) (h m (omega arith)) ∙ none_some m t (λ k l. h k (omega arith))

pub one_some : (m : ℕ) (t : ℕ → Bool) (k : ℕ) → k < m → t k ≡ true → some m t ≡ true
unfolding some
one_some zero t k l e = absurd (not-suc-le-zero l)
one_some (suc m) t k l e = go (t m) refl (ℕ_discrete k m) (λ h. one_some m t k h e)
  where
    go : (x : Bool) → t m ≡ x → Dec (k ≡ m) → (k < m → some m t ≡ true) → pick x true (some m t) ≡ true
    go true q d rest = refl
    go false q (yes z) rest = clash (sym q ∙ ap t (sym z) ∙ e)
    go false q (no z) rest = rest (omega arith)

pub some_none : (m : ℕ) (t : ℕ → Bool) → some m t ≡ false → (k : ℕ) → k < m → t k ≡ false
some_none m t e k l = go (t k) refl
  where
    go : (x : Bool) → t k ≡ x → x ≡ false
    go true q = clash (sym e ∙ one_some m t k l q)
    go false q = refl

-- one of the first m tests holds
pub record Hit (m : ℕ) (t : ℕ → Bool) : Type 0 where
  pub k : ℕ
  pub below : k < m
  pub holds : t k ≡ true

pub some_hit : (m : ℕ) (t : ℕ → Bool) → some m t ≡ true → Hit m t
unfolding some
some_hit zero t e = clash e
some_hit (suc m) t e = go (t m) refl e (some_hit m t)
  where
    go : (x : Bool) → t m ≡ x → pick x true (some m t) ≡ true → (some m t ≡ true → Hit m t) → Hit (suc m) t
    go true q h rest = record { k = m; below = omega arith; holds = q }
    go false q h rest = let z = rest h in record { k = z.k; below = omega (arith, z.below); holds = z.holds }

-- ---- first

pub first_same : (m : ℕ) (t u : ℕ → Bool) → ((k : ℕ) → k < m → t k ≡ u k) → first m t ≡ first m u
unfolding first
first_same zero t u h = refl
first_same (suc m) t u h =
    ap₂ (λ (x : Bool) (y : ℕ). pick x 0 (suc y)) (h 0 (omega arith)) (first_same m (λ j. t (suc j)) (λ j. u (suc j)) (λ j l. h (suc j) (omega arith)))

-- nothing holds before x, and x holds unless it is the end
pub first_at : (m : ℕ) (t : ℕ → Bool) (x : ℕ) → x ≤ m → ((j : ℕ) → j < x → t j ≡ false) → (x < m → t x ≡ true) → first m t ≡ x
unfolding first
first_at zero t x l b h = omega arith
first_at (suc m) t zero l b h = ap (λ (y : Bool). pick y 0 (suc (first m (λ j. t (suc j))))) (h (omega arith))
first_at (suc m) t (suc x) l b h =
    ap (λ (y : Bool). pick y 0 (suc (first m (λ j. t (suc j))))) (b 0 (omega arith))
    ∙ ap suc (first_at m (λ j. t (suc j)) x (omega arith) (λ j lj. b (suc j) (omega arith)) (λ lx. h (omega arith)))

-- one holds, at the first, or none does
pub first_or_none : (m : ℕ) (t : ℕ → Bool) → (first m t < m) ⊎ ((k : ℕ) → k < m → t k ≡ false)
unfolding first
first_or_none zero t = inr (λ k l. absurd (not-suc-le-zero l))
first_or_none (suc m) t = go (t 0) refl (first_or_none m (λ j. t (suc j)))
  where
    each : t 0 ≡ false → ((k : ℕ) → k < m → t (suc k) ≡ false) → (k : ℕ) → k < suc m → t k ≡ false
    each q h zero l = q
    each q h (suc k) l = h k (omega arith)

    go : (x : Bool) → t 0 ≡ x → (first m (λ j. t (suc j)) < m) ⊎ ((k : ℕ) → k < m → t (suc k) ≡ false)
        → (pick x 0 (suc (first m (λ j. t (suc j)))) < suc m) ⊎ ((k : ℕ) → k < suc m → t k ≡ false)
    go true q w = inl (omega arith)
    go false q (inl l) = inl (omega arith)
    go false q (inr h) = inr (each q h)

next_most : (x : Bool) (k m : ℕ) → k ≤ m → pick x 0 (suc k) ≤ suc m
next_most true k m h = omega arith
next_most false k m h = omega arith

pub first_most : (m : ℕ) (t : ℕ → Bool) → first m t ≤ m
unfolding first
first_most zero t = omega arith
first_most (suc m) t = next_most (t 0) _ m (first_most m (λ j. t (suc j)))
