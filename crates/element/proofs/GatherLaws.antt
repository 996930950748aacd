-- The loops of gather and is_zero: a buffer after its first k bytes, a test after its first k. Assumes nothing.
use Rattle.std.specs.Prelude.{◌≡◌, refl, Bool, true, false, List, [], ◌∷◌, ℕ, zero, suc, ◌+◌, ◌-◌, ◌≤◌, ◌<◌, length, get_or, eqb, take}
use Rattle.std.proofs.Common.{sym, ap, ◌∙◌, inl, inr, ⊎_elim, not-suc-le-zero, arith, eq-eqb, eqb-true, get_or-take, length-take-le}
use Rattle.std.proofs.Math.Decide.{dec_lt}
use Rattle.std.specs.Int.Bits.{bit_or, or_add_and}
use Rattle.std.proofs.lemmas.Nat.{and_le_l, and_le_r}
use Rattle.code.specs.SumLaws.{sum_ext, clash}
use Rattle.std.specs.List.{fold}
use Rattle.element.specs.Filled.{Begins, Filled}
use Rattle.element.specs.FilledLaws.{filled_same, filled_then}
use Rattle.element.specs.Gather.{from, total, Apart, Gathered, Zero, AllZero, Tells}

-- ---- a block, or its first m bytes, as a run

run_whole : (f : ℕ → ℕ) (m : ℕ) (a : List ℕ) → length a ≡ m → Begins m f a → Begins (length a) f a
run_whole f m a e p = record { each = λ k lt. p.each k (omega arith) }

pub run_part : (f : ℕ → ℕ) (m : ℕ) (a : List ℕ) → m ≤ length a → Begins m f a → Begins (length (take m a)) f (take m a)
run_part f m a h p = record { each = λ k lt. let x : k < m = omega (arith, length-take-le m a h) in get_or-take m a k 0 x ∙ p.each k x }

-- ---- gather, block after block

-- what lies apart from the e bytes at d is as it was: the sum of the rest is that of the entry bytes
total_kept : (s os : List ℕ) (e d k : ℕ) (t : List ℕ) (i : ℕ) → i < e → k ≤ i → Apart e d os → Gathered s k d os t → total t os i ≡ total s os i
total_kept s os e d k t i h l p q =
    sum_ext (from t i) (from s i) os
    (λ j lt.
    q.outside (get_or os j 0 + i)
    (⊎_elim (λ x. inl (omega arith)) (λ x. inr (omega arith)) (p.each j lt)))

pub gathered_then : (s os : List ℕ) (e d k m : ℕ) (t a u : List ℕ) → k + m ≤ e → Apart e d os → Gathered s k d os t
    → Begins m (λ i. total t os (k + i)) a → Filled t (d + k) m (λ i. get_or a i 0) u → Gathered s (k + m) d os u
gathered_then s os e d k m t a u h p g q f =
    filled_then s d k m (total s os) (λ i. get_or a i 0) t u
    (λ i lt. q.each i lt ∙ total_kept s os e d k t (k + i) (omega arith) (omega arith) p g) g f

-- the run a, put after the k bytes that stand
pub gathered_run : (s os : List ℕ) (e d k l : ℕ) (t a u : List ℕ) → l ≡ k + length a → l ≤ e → Apart e d os → Gathered s k d os t
    → Begins (length a) (λ i. total t os (k + i)) a → Filled t (d + k) (length a) (λ i. get_or a i 0) u → Gathered s l d os u
gathered_run s os e d k l t a u c h p g q f =
    filled_same s d (k + length a) l (total s os) (total s os) u (sym c) (λ i lt. refl)
    (gathered_then s os e d k (length a) t a u (omega arith) p g q f)

-- the same of a block
pub gathered_block : (s os : List ℕ) (e d k l : ℕ) (t a u : List ℕ) → l ≡ k + 128 → length a ≡ 128 → l ≤ e → Apart e d os → Gathered s k d os t
    → Begins 128 (λ i. total t os (k + i)) a → Filled t (d + k) (length a) (λ i. get_or a i 0) u → Gathered s l d os u
gathered_block s os e d k l t a u c y h p g q f =
    gathered_run s os e d k l t a u (omega arith) h p g (run_whole (λ i. total t os (k + i)) 128 a y q) f

-- ---- zero, one after the other and run after run

pub zero_none : (f : ℕ → ℕ) → Zero 0 f
zero_none f = record { each = λ k lt. absurd (not-suc-le-zero lt) }

-- fewer
pub zero_part : (e l : ℕ) (f : ℕ → ℕ) → l ≤ e → Zero e f → Zero l f
zero_part e l f h p = record { each = λ k lt. p.each k (omega arith) }

-- a run of k, and after it one of m, which a begins with
pub zero_then : (f : ℕ → ℕ) (k m : ℕ) (a : List ℕ) → Zero k f → Begins m (λ t. f (k + t)) a → Zero m (λ t. get_or a t 0) → Zero (k + m) f
zero_then f k m a p q z = record { each = λ i lt. go i lt (dec_lt i k) }
  where
    go : (i : ℕ) → i < k + m → Dec (i < k) → f i ≡ 0
    go i lt (yes x) = p.each i x
    go i lt (no x) = let y : i ≡ k + (i - k) = omega arith in ap f y ∙ sym (q.each (i - k) (omega arith)) ∙ z.each (i - k) (omega arith)

pub zero_block : (f : ℕ → ℕ) (k l : ℕ) (a : List ℕ) → l ≡ k + 128 → length a ≡ 128 → Zero k f → Begins 128 (λ t. f (k + t)) a
    → Zero (length a) (λ t. get_or a t 0) → Zero l f
zero_block f k l a c y p q z =
    zero_part (k + length a) l f (omega arith) (zero_then f k (length a) a p (run_whole (λ t. f (k + t)) 128 a y q) z)

-- ---- the test of a block

or_nil_l : (x y : ℕ) → bit_or x y ≡ 0 → x ≡ 0
or_nil_l x y e = omega (arith, or_add_and x y, and_le_r x y)

or_nil_r : (x y : ℕ) → bit_or x y ≡ 0 → y ≡ 0
or_nil_r x y e = omega (arith, or_add_and x y, and_le_l x y)

zero_cons : (x : ℕ) (xs : List ℕ) → x ≡ 0 → Zero (length xs) (λ k. get_or xs k 0) → Zero (length (x ∷ xs)) (λ k. get_or (x ∷ xs) k 0)
zero_cons x xs e z = record { each = go }
  where
    go : (k : ℕ) → k < suc (length xs) → get_or (x ∷ xs) k 0 ≡ 0
    go zero lt = e
    go (suc k) lt = z.each k (omega arith)

-- an or that is zero had nothing to begin with
or_zero : (xs : List ℕ) (r : ℕ) → fold bit_or r xs ≡ 0 → (r ≡ 0) × Zero (length xs) (λ k. get_or xs k 0)
or_zero [] r e = (e, zero_none _)
or_zero (x ∷ xs) r e = let p = or_zero xs (bit_or r x) e in (or_nil_l r x p.0, zero_cons x xs (or_nil_r r x p.0) p.1)

or_of_zero : (xs : List ℕ) → Zero (length xs) (λ k. get_or xs k 0) → fold bit_or 0 xs ≡ 0
or_of_zero [] z = refl
or_of_zero (x ∷ xs) z =
    ap (λ (r : ℕ). fold bit_or (bit_or 0 r) xs) (z.each 0 (omega arith)) ∙ or_of_zero xs (record { each = λ k lt. z.each (suc k) (omega arith) })

pub or_tells : (xs : List ℕ) → AllZero (length xs) (λ k. get_or xs k 0) (eqb (fold bit_or 0 xs) 0)
or_tells xs = record { yes = λ e. (or_zero xs 0 (eqb-true _ _ e)).1; no = λ z. eq-eqb _ 0 (or_of_zero xs z) }

-- ---- what is_zero answers

pub tells_yes : (s os : List ℕ) (e k : ℕ) → e ≤ k → Zero k (total s os) → Tells s e os true
tells_yes s os e k h z = record { yes = λ x. zero_part k e (total s os) h z; no = λ y. refl }

-- the last block decides
pub tells_last : (s os : List ℕ) (e k m : ℕ) (a : List ℕ) (r : Bool) → k + m ≡ e → Zero k (total s os) → Begins m (λ t. total s os (k + t)) a
    → AllZero m (λ t. get_or a t 0) r → Tells s e os r
tells_last s os e k m a r h p q n =
    record {
      yes = λ x. zero_part (k + m) e (total s os) (omega arith) (zero_then (total s os) k m a p q (n.yes x));
      no = λ z. n.no (record { each = λ t lt. q.each t lt ∙ z.each (k + t) (omega arith) });
    }

-- the answer is not open
pub tells_determined : (s os : List ℕ) (e : ℕ) (q r : Bool) → Tells s e os q → Tells s e os r → q ≡ r
tells_determined s os e true true x y = refl
tells_determined s os e true false x y = clash (y.no (x.yes refl))
tells_determined s os e false true x y = clash (x.no (y.yes refl))
tells_determined s os e false false x y = refl
