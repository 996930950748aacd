-- Laws of runs: one more, a run after a run, a part that was lent and comes back. Assumes nothing.
use Rattle.std.specs.Prelude.{◌≡◌, refl, List, ◌++◌, ℕ, ◌+◌, ◌-◌, ◌≤◌, ◌<◌, length, get_or, set, take, drop}
use Rattle.std.proofs.Common.{sym, ap, ◌∙◌, subst, inl, inr, ⊎_elim, not-suc-le-zero, zero-add, arith, length-set, length-append, length-drop, get_or-set_same, get_or-set_other, get_or-append-add, get_or-take, get_or-drop, length-take-le, ext_get_or, below_more}
use Rattle.std.proofs.Math.Decide.{dec_lt}
use Rattle.std.proofs.Math.ListN.{get_or-append}
use Rattle.element.specs.Filled.{Begins, Filled}

-- ---- how a list begins

-- ---- one more

pub filled_none : (s : List ℕ) (d : ℕ) (f : ℕ → ℕ) → Filled s d 0 f s
filled_none s d f = record { long = refl; inside = λ k lt. absurd (not-suc-le-zero lt); outside = λ i o. refl }

-- the next index, as the code has it, set
pub filled_more : (s : List ℕ) (d m : ℕ) (f : ℕ → ℕ) (t : List ℕ) (i v : ℕ) → i ≡ d + m → i < length s → v ≡ f m → Filled s d m f t
    → Filled s d (m + 1) f (set t i v)
filled_more s d m f t i v at l e p =
    record {
      long = length-set t i v ∙ p.long;
      inside = below_more (λ (k : ℕ). get_or (set t i v) (d + k) 0 ≡ f k) m (λ k lt. get_or-set_other t i (d + k) v 0 (omega arith) ∙ p.inside k lt)
          (ap (λ (n : ℕ). get_or (set t i v) n 0) (sym at) ∙ get_or-set_same t i v 0 (omega (arith, p.long)) ∙ e);
      outside = λ j o. get_or-set_other t i j v 0 (λ q. ⊎_elim (λ (x : j < d). omega arith) (λ (x : d + (m + 1) ≤ j). omega arith) o)
          ∙ p.outside j (⊎_elim (λ (x : j < d). inl x) (λ (x : d + (m + 1) ≤ j). inr (omega arith)) o);
    }

-- what is not yet written is as it was
pub filled_next : (s : List ℕ) (m : ℕ) (f : ℕ → ℕ) (t : List ℕ) → Filled s 0 m f t → get_or t m 0 ≡ get_or s m 0
filled_next s m f t p = p.outside m (inr (omega arith))

-- ---- the same run, said in another way

pub filled_same : (s : List ℕ) (d m l : ℕ) (f g : ℕ → ℕ) (t : List ℕ) → m ≡ l → ((k : ℕ) → k < l → f k ≡ g k) → Filled s d m f t → Filled s d l g t
filled_same s d m l f g t e h p =
    record {
      long = p.long;
      inside = λ k lt. p.inside k (omega arith) ∙ h k lt;
      outside = λ i o. p.outside i (⊎_elim (λ (x : i < d). inl x) (λ (x : d + l ≤ i). inr (omega arith)) o);
    }

-- a loop's end: m is at most l and not below it
pub filled_all : (s : List ℕ) (d m l : ℕ) (f : ℕ → ℕ) (t : List ℕ) → m ≤ l → l ≤ m → Filled s d m f t → Filled s d l f t
filled_all s d m l f t h g p = filled_same s d m l f f t (omega arith) (λ k lt. refl) p

pub filled_begins : (s : List ℕ) (m : ℕ) (f : ℕ → ℕ) (t : List ℕ) → Filled s 0 m f t → Begins m f t
filled_begins s m f t p = record { each = λ k lt. ap (λ (n : ℕ). get_or t n 0) (sym (zero-add k)) ∙ p.inside k lt }

-- ---- a run of m, and after it one of l

pub filled_then : (s : List ℕ) (d m l : ℕ) (f g : ℕ → ℕ) (t u : List ℕ) → ((k : ℕ) → k < l → g k ≡ f (m + k)) → Filled s d m f t
    → Filled t (d + m) l g u → Filled s d (m + l) f u
filled_then s d m l f g t u e p q =
    record {
      long = q.long ∙ p.long;
      inside = λ k lt. go k lt (dec_lt k m);
      outside = λ i o.
          q.outside i (⊎_elim (λ (x : i < d). inl (omega arith)) (λ (x : d + (m + l) ≤ i). inr (omega arith)) o)
          ∙ p.outside i (⊎_elim (λ (x : i < d). inl x) (λ (x : d + (m + l) ≤ i). inr (omega arith)) o);
    }
  where
    go : (k : ℕ) → k < m + l → Dec (k < m) → get_or u (d + k) 0 ≡ f k
    go k lt (yes x) = q.outside (d + k) (inl (omega arith)) ∙ p.inside k x
    go k lt (no x) =
        let y : m + (k - m) ≡ k = omega arith in
        let z : d + k ≡ (d + m) + (k - m) = omega arith in
        ap (λ (i : ℕ). get_or u i 0) z ∙ q.inside (k - m) (omega arith) ∙ e (k - m) (omega arith) ∙ ap f y

-- ---- a part that was lent, in its place

pub filled_part : (s : List ℕ) (d m : ℕ) (f : ℕ → ℕ) (y : List ℕ) → d + m ≤ length s → length y ≡ m → Begins m f y
    → Filled s d m f (take d s ++ (y ++ drop m (drop d s)))
filled_part s d m f y h ly p =
    record {
      long = omega (arith, l, la, lyz, lz, ld);
      inside = λ k lt.
          ap (λ (i : ℕ). get_or (a ++ (y ++ z)) i 0) (there k)
          ∙ get_or-append-add a (y ++ z) k 0
          ∙ get_or-append y z 0 k (omega arith)
          ∙ p.each k lt;
      outside = λ i o. ⊎_elim (front i) (back i) o;
    }
  where
    a : List ℕ
    a = take d s

    z : List ℕ
    z = drop m (drop d s)

    la : length a ≡ d
    la = length-take-le d s (omega arith)

    ld : length (drop d s) ≡ length s - d
    ld = length-drop d s

    lz : length z ≡ length (drop d s) - m
    lz = length-drop m (drop d s)

    lyz : length (y ++ z) ≡ length y + length z
    lyz = length-append y z

    l : length (a ++ (y ++ z)) ≡ length a + length (y ++ z)
    l = length-append a (y ++ z)

    there : (k : ℕ) → d + k ≡ length a + k
    there k = omega (arith, la)

    front : (i : ℕ) → i < d → get_or (a ++ (y ++ z)) i 0 ≡ get_or s i 0
    front i x = get_or-append a (y ++ z) 0 i (omega (arith, la)) ∙ get_or-take d s i 0 x

    back : (i : ℕ) → d + m ≤ i → get_or (a ++ (y ++ z)) i 0 ≡ get_or s i 0
    back i x =
        let q : ℕ = i - (d + m) in
        let e : i ≡ length a + (length y + q) = omega (arith, la) in
        let b : d + (m + q) ≡ i = omega arith in
        ap (λ (n : ℕ). get_or (a ++ (y ++ z)) n 0) e
        ∙ get_or-append-add a (y ++ z) (length y + q) 0
        ∙ get_or-append-add y z q 0
        ∙ get_or-drop m (drop d s) q 0
        ∙ get_or-drop d s (m + q) 0
        ∙ ap (λ (n : ℕ). get_or s n 0) b

-- ---- a run leaves no byte open

pub filled_determined : (s : List ℕ) (d m : ℕ) (f : ℕ → ℕ) (t u : List ℕ) → Filled s d m f t → Filled s d m f u → t ≡ u
filled_determined s d m f t u p q = ext_get_or 0 t u (p.long ∙ sym q.long) (λ i lt. go i (dec_lt i d) (dec_lt i (d + m)))
  where
    go : (i : ℕ) → Dec (i < d) → Dec (i < d + m) → get_or t i 0 ≡ get_or u i 0
    go i (yes x) y = p.outside i (inl x) ∙ sym (q.outside i (inl x))
    go i (no x) (no y) = p.outside i (inr (omega arith)) ∙ sym (q.outside i (inr (omega arith)))
    go i (no x) (yes y) =
        let z : d + (i - d) ≡ i = omega arith in
        subst (λ (n : ℕ). get_or t n 0 ≡ get_or u n 0) z (p.inside (i - d) (omega arith) ∙ sym (q.inside (i - d) (omega arith)))
