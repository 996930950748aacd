-- The loops of sum and of add: a block after its first j sources, a byte of it after the first i of a part. Assumes nothing.
use Rattle.std.specs.Prelude.{◌≡◌, List, ℕ, zero, suc, ◌+◌, ◌≤◌, length, get_or, replicate}
use Rattle.std.proofs.Common.{sym, ap, ap₂, ◌∙◌, subst, le_antisymm, arith}
use Rattle.std.proofs.lemmas.List.{length-replicate, get_or-replicate}
use Rattle.code.specs.Xor.{◌⊕◌, ⊕_assoc, ⊕_zero}
use Rattle.code.specs.Sum.{sum_to}
use Rattle.code.specs.SumLaws.{sum_to_none, sum_to_more, sum_to_ext, sum_index}
use Rattle.element.specs.Filled.{Begins, Filled}
use Rattle.element.specs.FilledLaws.{filled_begins}
use Rattle.element.specs.Sofar.{partial, Sofar}
use Rattle.element.proofs.Parts.{Part}
use Rattle.element.specs.Gather.{from, total}

-- ---- a block of the sum, source after source

pub sofar_none : (s os : List ℕ) (k m : ℕ) → m ≤ 128 → Sofar s os k m 0 (replicate 128 0)
sofar_none s os k m h =
    record {
      long = length-replicate {A = ℕ} 128 0;
      within = omega arith;
      each = λ t lt. get_or-replicate {A = ℕ} 128 t 0 0 (omega arith) ∙ sym (sum_to_none (λ i. from s (k + t) (get_or os i 0)));
    }

pub sofar_at : (s os : List ℕ) (k m j l : ℕ) (a : List ℕ) → l ≡ j → Sofar s os k m j a → Sofar s os k m l a
sofar_at s os k m j l a e p = subst (λ (i : ℕ). Sofar s os k m i a) (sym e) p

-- a sum of n more
sum_to_then : (j n : ℕ) (f : ℕ → ℕ) → sum_to (j + n) f ≡ sum_to j f ⊕ sum_to n (λ i. f (j + i))
unfolding sum_to
sum_to_then j zero f =
    let e : j + 0 ≡ j = omega arith in
    ap (λ (n : ℕ). sum_to n f) e ∙ sym (⊕_zero (sum_to j f)) ∙ ap (λ (x : ℕ). sum_to j f ⊕ x) (sym (sum_to_none (λ i. f (j + i))))
sum_to_then j (suc n) f =
    let e : j + suc n ≡ (j + n) + 1 = omega arith in
    ap (λ (x : ℕ). sum_to x f) e ∙ sum_to_more (j + n) f ∙ ap (λ (x : ℕ). x ⊕ f (j + n)) (sum_to_then j n f)
    ∙ ⊕_assoc (sum_to j f) (sum_to n (λ i. f (j + i))) (f (j + n))

-- the sources at qs, which os has from j on, added to what stands
pub sofar_more : (s os qs : List ℕ) (k m j l : ℕ) (a b : List ℕ) → l ≡ j + length qs → Part os j qs → Sofar s os k m j a
    → Filled a 0 m (λ t. get_or a t 0 ⊕ total s qs (k + t)) b → Sofar s os k m l b
sofar_more s os qs k m j l a b e r p q =
    record {
      long = q.long ∙ p.long;
      within = omega (arith, r.within);
      each = λ t lt. (filled_begins a m (λ x. get_or a x 0 ⊕ total s qs (k + x)) b q).each t lt
          ∙ ap₂ ◌⊕◌ (p.each t lt) (sum_index (from s (k + t)) qs
          ∙ sum_to_ext (length qs) (λ i. from s (k + t) (get_or qs i 0)) (λ i. from s (k + t) (get_or os (j + i) 0)) (λ i lt. ap (from s (k + t)) (r.each i lt)))
          ∙ sym (sum_to_then j (length qs) (λ i. from s (k + t) (get_or os i 0)))
          ∙ ap (λ (x : ℕ). partial s os x (k + t)) (sym e);
    }

-- one source more on byte t of acc
pub partial_more : (s os : List ℕ) (k t i a x : ℕ) → x ≡ a ⊕ partial s os i (k + t)
    → x ⊕ get_or s ((get_or os i 0 + k) + t) 0 ≡ a ⊕ partial s os (i + 1) (k + t)
partial_more s os k t i a x e =
    let f : ℕ → ℕ = λ i. from s (k + t) (get_or os i 0) in
    let y : (get_or os i 0 + k) + t ≡ get_or os i 0 + (k + t) = omega arith in
    ap₂ ◌⊕◌ e (ap (λ (n : ℕ). get_or s n 0) y) ∙ ⊕_assoc a (sum_to i f) (f i) ∙ ap (λ (n : ℕ). a ⊕ n) (sym (sum_to_more i f))

pub partial_none : (s os : List ℕ) (k a : ℕ) → a ≡ a ⊕ partial s os 0 k
partial_none s os k a = sym (⊕_zero a) ∙ ap (λ (n : ℕ). a ⊕ n) (sym (sum_to_none (λ i. from s k (get_or os i 0))))

pub partial_all : (s os : List ℕ) (i k : ℕ) → i ≡ length os → partial s os i k ≡ total s os k
partial_all s os i k e = ap (λ (n : ℕ). partial s os n k) e ∙ sym (sum_index (from s k) os)

pub sofar_all : (s os : List ℕ) (k m j : ℕ) (a : List ℕ) → length os ≤ j → Sofar s os k m j a → Begins m (λ t. total s os (k + t)) a
sofar_all s os k m j a h p = record { each = λ t lt. p.each t lt ∙ partial_all s os j (k + t) (le_antisymm p.within h) }
