-- A list of sources taken part by part: the chunks that as_rchunks gives, and one source of what it leaves. Assumes nothing.
use Rattle.std.specs.Prelude.{◌≡◌, List, [], ◌∷◌, ℕ, zero, suc, ◌+◌, ◌*◌, ◌≤◌, ◌<◌, length, get_or, take, drop}
use Rattle.std.proofs.Common.{sym, ap, subst, ◌∙◌, not-suc-le-zero, arith, length-drop, get_or-take, get_or-drop, length-take-le}
use Rattle.std.proofs.Math.Nat.{mul-le-mul_left}
use Rattle.std.specs.Simd.{first_chunks}
use Rattle.element.specs.Gather.{Fits}

-- qs is a part of os, from index j on
pub record Part (os : List ℕ) (j : ℕ) (qs : List ℕ) : Type 0 where
  pub within : j + length qs ≤ length os
  pub each : (i : ℕ) → i < length qs → get_or qs i 0 ≡ get_or os (j + i) 0

-- what fits at every source fits at those of a part
pub fits_of : (s os qs : List ℕ) (e j : ℕ) → Part os j qs → Fits s e os → Fits s e qs
fits_of s os qs e j p h = record { each = λ i lt. omega (arith, p.each i lt, p.within, h.each (j + i) (omega (arith, p.within))) }

-- ---- chunks of n

length_chunk : (n c j : ℕ) (os : List ℕ) → n * c ≤ length os → j < c → length (get_or (first_chunks n c os) j []) ≡ n
length_chunk n zero j os h lt = absurd (not-suc-le-zero lt)
length_chunk n (suc c) zero os h lt = length-take-le n os (omega arith)
length_chunk n (suc c) (suc j) os h lt = length_chunk n c j (drop n os) (omega (arith, length-drop n os)) (omega arith)

chunk_each : (n c j i : ℕ) (os : List ℕ) → j < c → i < n → get_or (get_or (first_chunks n c os) j []) i 0 ≡ get_or os (n * j + i) 0
chunk_each n zero j i os h lt = absurd (not-suc-le-zero h)
chunk_each n (suc c) zero i os h lt = let e : i ≡ n * 0 + i = omega arith in get_or-take n os i 0 lt ∙ ap (λ (x : ℕ). get_or os x 0) e
chunk_each n (suc c) (suc j) i os h lt =
    let e : n + (n * j + i) ≡ n * suc j + i = omega arith in
    chunk_each n c j i (drop n os) (omega arith) lt ∙ get_or-drop n os (n * j + i) 0 ∙ ap (λ (x : ℕ). get_or os x 0) e

-- chunk j of c
pub chunk_of : (n c j : ℕ) (os : List ℕ) (fs : List (List ℕ)) → n * c ≤ length os → fs ≡ first_chunks n c os → j < c
    → (length (get_or fs j []) ≡ n) × Part os (n * j) (get_or fs j [])
chunk_of n c j os fs room e lt = subst (λ (x : List (List ℕ)). (length (get_or x j []) ≡ n) × Part os (n * j) (get_or x j [])) (sym e) (long, part)
  where
    long : length (get_or (first_chunks n c os) j []) ≡ n
    long = length_chunk n c j os room lt

    part : Part os (n * j) (get_or (first_chunks n c os) j [])
    part =
        record {
          within = omega (arith, long, room, mul-le-mul_left {m = j + 1} {n = c} n (omega arith));
          each = λ i x. chunk_each n c j i os lt (omega (arith, long));
        }

-- a part of what follows the first a
pub part_after : (os qs : List ℕ) (a j : ℕ) → a ≤ length os → Part (drop a os) j qs → Part os (a + j) qs
part_after os qs a j h p =
    record {
      within = omega (arith, p.within, length-drop a os);
      each = λ i lt. p.each i lt ∙ get_or-drop a os (j + i) 0 ∙ ap (λ (x : ℕ). get_or os x 0) (omega arith);
    }

-- ---- the first few, one by one

pub part_one : (os few : List ℕ) (a j : ℕ) → a ≤ length os → few ≡ take a os → j < length few → Part os j (get_or few j 0 ∷ [])
part_one os few a j h e lt = record { within = omega (arith, ap length e, length-take-le a os h); each = each }
  where
    each : (i : ℕ) → i < 1 → get_or (get_or few j 0 ∷ []) i 0 ≡ get_or os (j + i) 0
    each zero l =
        let z : j ≡ j + 0 = omega arith in
        ap (λ (x : List ℕ). get_or x j 0) e ∙ get_or-take a os j 0 (omega (arith, ap length e, length-take-le a os h)) ∙ ap (λ (x : ℕ). get_or os x 0) z
    each (suc i) l = absurd (omega arith)
