-- Numbers of several bytes, the low one first. Assumes nothing.
use Rattle.std.specs.Prelude.{◌≡◌, List, [], ◌∷◌, ℕ, suc, ◌+◌, ◌*◌, ◌^◌, ◌<◌, length, get_or, drop}
use Rattle.std.proofs.Common.{ap, ◌∙◌, zero-lt-suc, add-one, arith, pow-add, drop-cons}
use Rattle.std.proofs.Math.Arith.{digits_lt}

unfoldable pub low_first : List ℕ → ℕ
low_first [] = 0
low_first (b ∷ l) = b + 256 * low_first l

-- ---- laws

-- the bytes from k on: byte k, and 256 times those after it
pub low_first_more : (l : List ℕ) (k : ℕ) → k < length l → low_first (drop k l) ≡ get_or l k 0 + 256 * low_first (drop (k + 1) l)
unfolding low_first
low_first_more l k h = rw (add-one, drop-cons l k 0 h)

-- a number of m bytes has at most 8 m bits
pub below : (l : List ℕ) → ((i : ℕ) → i < length l → get_or l i 0 < 256) → low_first l < 2 ^ (8 * length l)
unfolding low_first
below [] h = zero-lt-suc 0
below (b ∷ l) h =
    let q : 8 * suc (length l) ≡ 8 * length l + 8 = omega arith in
    let x = digits_lt (below l (λ i li. h (suc i) (omega arith))) (h 0 (omega arith)) in
    omega (arith, ap (λ (x : ℕ). 2 ^ x) q ∙ pow-add 2 (8 * length l) 8)
