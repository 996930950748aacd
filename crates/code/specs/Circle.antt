-- Numbers round a circle of n: remainders of sums below 2 n. Assumes nothing.
use Rattle.std.specs.Prelude.{ℕ, ◌+◌, ◌-◌, ◌%◌, ◌<◌, ◌≤◌, ◌≡◌, ◌⊎◌}
use Rattle.std.proofs.Common.{sym, ap, ◌∙◌, inl, inr, mod-lt, mod-eq_of_lt, arith}
use Rattle.std.proofs.Math.Nat.{mod-eq-sub-mod, add-mod-mod, add-mod_right}
use Rattle.std.proofs.Math.Decide.{dec_lt, dec_le}

-- a number from n to 2 n, once round
pub wrap : (n x : ℕ) → n ≤ x → x < n + n → x % n ≡ x - n
wrap n x h l = mod-eq-sub-mod h ∙ mod-eq_of_lt (omega arith)

-- a number below 2 n stays, or goes round once
pub data Turn (n x : ℕ) : Type 0 where
  stays : x < n → x % n ≡ x → Turn n x
  round : n ≤ x → x % n ≡ x - n → Turn n x

-- which of the two
pub turn : (n x : ℕ) → x < n + n → Turn n x
turn n x l = go (dec_lt x n)
  where
    go : Dec (x < n) → Turn n x
    go (yes h) = stays h (mod-eq_of_lt h)
    go (no h) = round (omega arith) (wrap n x (omega arith) l)

-- equal remainders after equal steps from d
pub mod_cancel : (n d t u : ℕ) → d < n → t < n → u < n → (d + t) % n ≡ (d + u) % n → t ≡ u
mod_cancel n d t u ld lt lu e = go (turn n (d + t) (omega arith)) (turn n (d + u) (omega arith))
  where
    go : Turn n (d + t) → Turn n (d + u) → t ≡ u
    go (stays p x) (stays q y) = omega arith
    go (stays p x) (round q y) = omega arith
    go (round p x) (stays q y) = omega arith
    go (round p x) (round q y) = omega arith

-- the same for steps of any length
pub step_cancel : (n k d e : ℕ) → d < n → e < n → (d + k) % n ≡ (e + k) % n → d ≡ e
step_cancel n k d e ld le q =
    mod_cancel n (k % n) d e (mod-lt k (omega arith)) ld le
    (ap (λ (x : ℕ). x % n) (omega arith) ∙ add-mod-mod d k n ∙ q ∙ sym (ap (λ (x : ℕ). x % n) (omega arith) ∙ add-mod-mod e k n))

-- c and c + n have the remainder c
pub to_mod : (n x c : ℕ) → c < n → (x ≡ c) ⊎ (x ≡ c + n) → x % n ≡ c
to_mod n x c lc (inl e) = ap (λ (z : ℕ). z % n) e ∙ mod-eq_of_lt lc
to_mod n x c lc (inr e) = ap (λ (z : ℕ). z % n) e ∙ add-mod_right c n ∙ mod-eq_of_lt lc

-- u steps back from c
pub back : (n c u : ℕ) → c < n → u < n → (d : ℕ) × (d < n) × ((d + u ≡ c) ⊎ (d + u ≡ c + n))
back n c u lc lu = go (dec_le u c)
  where
    go : Dec (u ≤ c) → (d : ℕ) × (d < n) × ((d + u ≡ c) ⊎ (d + u ≡ c + n))
    go (yes h) = (c - u, omega arith, inl (omega arith))
    go (no h) = (c + n - u, omega arith, inr (omega arith))
