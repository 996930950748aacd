-- None or two: a set that meets a line in no place or in two sums to zero along it; and a set that is never alone on a line and never
-- three there meets it in none or two. Assumes nothing.
use Rattle.std.specs.Prelude.{ℕ, zero, suc, ◌<◌, ◌≡◌, refl, ◌≢◌, Bool, true, false}
use Rattle.std.proofs.Common.{ap, ap₂, ◌∙◌, subst, not-suc-le-zero, arith}
use Rattle.std.proofs.Math.Decide.{ℕ_discrete, dec_lt}
use Rattle.code.specs.Xor.{◌⊕◌, ⊕_self}
use Rattle.code.specs.Sum.{sum_to, only}
use Rattle.code.specs.SumLaws.{sum_to_nil, sum_to_two}

-- of f 0, .., f (m - 1) none holds, or exactly two do
pub data NoneOrTwo (m : ℕ) (f : ℕ → Bool) : Type 0 where
  none : ((i : ℕ) → i < m → f i ≡ false) → NoneOrTwo m f
  two : (p q : ℕ) → p < q → q < m → f p ≡ true → f q ≡ true → ((i : ℕ) → i < m → i ≢ p → i ≢ q → f i ≡ false) → NoneOrTwo m f

pub even_sum : (m : ℕ) (f : ℕ → Bool) → NoneOrTwo m f → sum_to m (λ i. only (f i) 1) ≡ 0
even_sum m f (none h) = sum_to_nil m _ (λ i l. ap (λ (t : Bool). only t 1) (h i l))
even_sum m f (two p q l lq ep eq h) =
    sum_to_two m (λ i. only (f i) 1) p q l lq (λ i li np nq. ap (λ (t : Bool). only t 1) (h i li np nq))
    ∙ ap₂ (λ (x y : Bool). only x 1 ⊕ only y 1) ep eq ∙ ⊕_self 1

-- a place other than p where f holds, or that there is none
data Found (m : ℕ) (f : ℕ → Bool) (P : ℕ → Type 0) : Type 0 where
  at : (i : ℕ) → i < m → P i → f i ≡ true → Found m f P
  nowhere : ((i : ℕ) → i < m → P i → f i ≡ false) → Found m f P

find : (m : ℕ) (f : ℕ → Bool) (P : ℕ → Type 0) → ((i : ℕ) → Dec (P i)) → Found m f P
find zero f P dec = nowhere (λ i l. absurd (not-suc-le-zero l))
find (suc m) f P dec = go (find m f P dec) (dec m) (f m) refl
  where
    go : Found m f P → Dec (P m) → (t : Bool) → f m ≡ t → Found (suc m) f P
    go (at i l x e) d t q = at i (omega arith) x e
    go (nowhere h) (yes x) true q = at m (omega arith) x q
    go (nowhere h) (yes x) false q = nowhere (λ i l y. last i l y (ℕ_discrete i m))
      where
        last : (i : ℕ) → i < suc m → P i → Dec (i ≡ m) → f i ≡ false
        last i l y (yes e) = ap f e ∙ q
        last i l y (no ne) = h i (omega arith) y
    go (nowhere h) (no nx) t q = nowhere (λ i l y. last i l y (ℕ_discrete i m))
      where
        last : (i : ℕ) → i < suc m → P i → Dec (i ≡ m) → f i ≡ false
        last i l y (yes e) = absurd (nx (subst P e y))
        last i l y (no ne) = h i (omega arith) y

other? : (p i : ℕ) → Dec (i ≢ p)
other? p i = go (ℕ_discrete i p)
  where
    go : Dec (i ≡ p) → Dec (i ≢ p)
    go (yes e) = no (λ ne. ne e)
    go (no ne) = yes ne

pub false_of : (t : Bool) → (t ≡ true → ⊥) → t ≡ false
false_of true f = absurd (f refl)
false_of false f = refl

-- never alone and never three: none or two
pub none_or_two : (m : ℕ) (f : ℕ → Bool)
    → ((p : ℕ) → p < m → f p ≡ true → ((i : ℕ) → i < m → i ≢ p → f i ≡ false) → ⊥)
    → ((p q i : ℕ) → p < m → q < m → i < m → p ≢ q → i ≢ p → i ≢ q → f p ≡ true → f q ≡ true → f i ≡ true → ⊥)
    → NoneOrTwo m f
none_or_two m f alone three = start (find m f (λ i. i ≡ i) (λ i. yes refl))
  where
    both : (p q : ℕ) → p < q → q < m → f p ≡ true → f q ≡ true → NoneOrTwo m f
    both p q l lq ep eq =
        two p q l lq ep eq (λ i li np nq. false_of (f i) (three p q i (omega arith) lq li (omega arith) np nq ep eq))

    pair_up : (p q : ℕ) → p < m → q < m → q ≢ p → f p ≡ true → f q ≡ true → Dec (p < q) → NoneOrTwo m f
    pair_up p q lp lq ne ep eq (yes l) = both p q l lq ep eq
    pair_up p q lp lq ne ep eq (no l) = both q p (omega arith) lp eq ep

    more : (p : ℕ) → p < m → f p ≡ true → Found m f (λ i. i ≢ p) → NoneOrTwo m f
    more p lp ep (at q lq ne eq) = pair_up p q lp lq ne ep eq (dec_lt p q)
    more p lp ep (nowhere h) = absurd (alone p lp ep h)

    start : Found m f (λ i. i ≡ i) → NoneOrTwo m f
    start (nowhere h) = none (λ i l. h i l refl)
    start (at p lp x ep) = more p lp ep (find m f (λ i. i ≢ p) (other? p))
