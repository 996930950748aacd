-- Laws of a mask's bits and of their count. Assumes nothing.
use Rattle.std.specs.Prelude.{◌≡◌, refl, false, ℕ, zero, suc, ◌+◌, ◌/◌, ◌%◌, ◌^◌, ◌≤◌, ◌<◌, eqb}
use Rattle.std.proofs.Common.{sym, ap, ap₂, ◌∙◌, mod-lt, mod-eq_of_lt, zero-lt-suc, add_comm, lt_of_lt_of_le, arith, pow_pos, pow_mono}
use Rattle.std.proofs.Math.Nat.{mod-one, div-eq_of_lt}
use Rattle.std.proofs.lemmas.Nat.{mod-pow-add, ones_cat}
use Rattle.std.specs.Int.Count.{ones}
use Rattle.code.specs.Sum.{only}
use Rattle.code.specs.Below.{count}
use Rattle.shape.specs.Mask.{lost_in}

-- a number below 2 ^ n has no one at bit n or above
pub none_from : (x n : ℕ) → x < 2 ^ n → (j : ℕ) → n ≤ j → lost_in x j ≡ false
none_from x n h j l = ap (λ (y : ℕ). eqb (y % 2) 1) (div-eq_of_lt (lt_of_lt_of_le h (pow_mono l)))

ones_bit : (b : ℕ) → b < 2 → ones b ≡ only (eqb b 1) 1
unfolding ones
ones_bit zero h = refl
ones_bit (suc zero) h = refl
ones_bit (suc (suc b)) h = absurd (omega arith)

ones_below : (k x : ℕ) → ones (x % 2 ^ k) ≡ count k (lost_in x)
unfolding count ones
ones_below zero x = ap ones (mod-one x)
ones_below (suc k) x =
    ap (λ (e : ℕ). ones (x % 2 ^ e)) (omega arith)
    ∙ ap ones (mod-pow-add x 1 k)
    ∙ ones_cat k (x / 2 ^ k % 2) (x % 2 ^ k) (mod-lt x (pow_pos k))
    ∙ add_comm (ones (x / 2 ^ k % 2)) (ones (x % 2 ^ k))
    ∙ ap₂ (λ (a b : ℕ). a + b) (ones_below k x) (ones_bit (x / 2 ^ k % 2) (mod-lt (x / 2 ^ k) (zero-lt-suc 1)))

-- the ones of a number of k digits are the strips that it loses
pub ones_count : (k x : ℕ) → x < 2 ^ k → ones x ≡ count k (lost_in x)
ones_count k x h = ap ones (sym (mod-eq_of_lt h)) ∙ ones_below k x
