-- From offsets to places: what gather, is_zero and add_at promise, said by the places of a stripe. Assumes nothing.
-- N == how many places the stripe has
use Rattle.std.specs.Prelude.{◌≡◌, Bool, ◌≢◌, ◌⊎◌, List, ℕ, ◌+◌, ◌*◌, ◌-◌, ◌≤◌, ◌<◌, length, get_or}
use Rattle.std.proofs.Common.{sym, ap, ◌∙◌, inl, inr, ⊎_elim, arith}
use Rattle.std.proofs.Math.Decide.{ℕ_discrete}
use Rattle.code.specs.Xor.{◌⊕◌}
use Rattle.code.specs.Sum.{sum}
use Rattle.code.specs.SumLaws.{sum_same}
use Rattle.code.specs.Place.{at, inside, apart}
use Rattle.element.specs.Filled.{Filled}
use Rattle.element.specs.Gather.{from, total, Fits, Apart, Gathered, Tells}
use Rattle.element.specs.Placed.{Offsets, Placed, TellsAt, AddedAt}

-- ---- offsets

-- the element at place q lies inside the l bytes of a stripe
pub place_fits : (l e N q d : ℕ) → l ≡ e * N → q < N → d ≡ q * e → d + e ≤ l
place_fits l e N q d z h w = omega (arith, inside e q N h)

pub offsets_fit : (s ps os : List ℕ) (e N : ℕ) → length s ≡ e * N → Offsets e ps os → ((i : ℕ) → i < length ps → get_or ps i 0 < N) → Fits s e os
offsets_fit s ps os e N l p h =
    record {
      each = λ i lt.
          let x : i < length ps = omega (arith, p.long) in
          omega (arith, p.each i x, inside e (get_or ps i 0) N (h i x));
    }

pub offsets_apart : (ps os : List ℕ) (e q d : ℕ) → d ≡ q * e → Offsets e ps os → ((i : ℕ) → i < length ps → get_or ps i 0 ≢ q) → Apart e d os
offsets_apart ps os e q d z p h =
    record {
      each = λ i lt.
          let x : i < length ps = omega (arith, p.long) in
          let y = p.each i x in
          ⊎_elim (λ (w : get_or ps i 0 * e + e ≤ q * e). inl (omega arith)) (λ (w : q * e + e ≤ get_or ps i 0 * e). inr (omega arith))
          (apart e (get_or ps i 0) q (h i x));
    }

-- the sum over offsets is the sum over their places
pub total_places : (s ps os : List ℕ) (e k : ℕ) → Offsets e ps os → total s os k ≡ sum (at s e k) ps
total_places s ps os e k p = sum_same (from s k) (at s e k) os ps p.long (λ i lt. ap (λ (x : ℕ). get_or s (x + k) 0) (p.each i lt))

-- ---- gather

-- what stands at another place lies outside the m bytes from byte o of place q on
elsewhere : (e q o m d p k : ℕ) → d ≡ q * e + o → o + m ≤ e → k < e → p ≢ q → (p * e + k < d) ⊎ (d + m ≤ p * e + k)
elsewhere e q o m d p k z h lk ne =
    ⊎_elim (λ (x : p * e + e ≤ q * e). inl (omega arith)) (λ (x : q * e + e ≤ p * e). inr (omega arith)) (apart e p q ne)

pub gathered_placed : (s ps os : List ℕ) (e q d : ℕ) (t : List ℕ) → d ≡ q * e → Offsets e ps os → Gathered s e d os t
    → Placed s e q (λ k. sum (at s e k) ps) t
gathered_placed s ps os e q d t z p g =
    record {
      long = g.long;
      here = λ k lt. ap (λ (x : ℕ). get_or t (x + k) 0) (sym z) ∙ g.inside k lt ∙ total_places s ps os e k p;
      there = λ c k lt ne. g.outside (c * e + k) (elsewhere e q 0 e d c k (omega arith) (omega arith) lt ne);
    }

-- ---- is_zero

pub tells_places : (s ps os : List ℕ) (e : ℕ) (r : Bool) → Offsets e ps os → Tells s e os r → TellsAt s e ps r
tells_places s ps os e r p h =
    record {
      yes = λ x k lt. sym (total_places s ps os e k p) ∙ (h.yes x).each k lt;
      no = λ z. h.no (record { each = λ k lt. total_places s ps os e k p ∙ z k lt });
    }

-- ---- add_at

pub filled_added_at : (s : List ℕ) (e q o m d : ℕ) (b : ℕ → ℕ) (t : List ℕ) → d ≡ q * e + o → o + m ≤ e → Filled s d m (λ k. get_or s (d + k) 0 ⊕ b k) t
    → AddedAt s e q o m (λ k. b (k - o)) t
filled_added_at s e q o m d b t z h f =
    record {
      long = f.long;
      here = λ k lo lk.
          let y : q * e + k ≡ d + (k - o) = omega arith in
          ap (λ (n : ℕ). get_or t n 0) y ∙ f.inside (k - o) (omega arith) ∙ ap (λ (n : ℕ). get_or s n 0 ⊕ b (k - o)) (sym y);
      there = λ p k lk ne. f.outside (p * e + k) (elsewhere e q o m d p k z h lk ne);
      aside = λ p k lk w. go p k lk w (ℕ_discrete p q);
    }
  where
    go : (p k : ℕ) → k < e → (k < o) ⊎ (o + m ≤ k) → Dec (p ≡ q) → at t e k p ≡ at s e k p
    go p k lk w (yes y) =
        let v : p * e ≡ q * e = ap (λ (n : ℕ). n * e) y in
        f.outside (p * e + k) (⊎_elim (λ (x : k < o). inl (omega arith)) (λ (x : o + m ≤ k). inr (omega arith)) w)
    go p k lk w (no ne) = f.outside (p * e + k) (elsewhere e q o m d p k z h lk ne)
