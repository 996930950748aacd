-- The lost strips of an accepted mask: none, one or two of the strips 0 to n, and the survivors decide the stripe. Assumes nothing.
-- len == the bytes of the lent buffer
use Rattle.std.specs.Prelude.{◌≡◌, ◌⊎◌, true, false, ℕ, ◌+◌, ◌-◌, ◌%◌, ◌^◌, ◌≤◌, ◌<◌, eqb}
use Rattle.std.proofs.Common.{sym, ap, ◌∙◌, inl, inr, lt_of_lt_of_le, arith, pow_pos, pow_mono, leb-false}
use Rattle.std.proofs.Math.Decide.{ℕ_discrete, dec_lt}
use Rattle.std.proofs.Math.Nat.{zero-div}
use Rattle.std.specs.Int.Count.{count_trailing_zeros, count_leading_zeros}
use Rattle.std.proofs.lemmas.Bool.{lt-leb}
use Rattle.code.specs.CountLaws.{zero_count}
use Rattle.code.specs.SumLaws.{clash}
use Rattle.code.specs.Code.{Decided}
use Rattle.code.specs.CodeLaws.{Fewer, decided_fewer}
use Rattle.code.specs.Layout.{code, pair}
use Rattle.code.specs.LayoutLaws.{pair_left, pair_right, pair_yes}
use Rattle.code.specs.Shift.{shift}
use Rattle.code.specs.Bound.{Good}
use Rattle.code.proofs.Exact.{good_decided}
use Rattle.shape.specs.Limits.{Limits}
use Rattle.shape.specs.Mask.{lost_in, above_test, FirstLost, LastLost}
use Rattle.shape.specs.LostLaws.{first_last, pair_lost}
use Rattle.shape.specs.MaskEnds.{trailing_first, leading_last, above_last}
use Rattle.shape.specs.Call.{bytes_of}
use Rattle.rebuild.specs.RebuildNumber.{Accepted}

-- ---- the empty mask

-- loses nothing
pub empty_lost : (j : ℕ) → lost_in 0 j ≡ false
empty_lost j = ap (λ (y : ℕ). eqb (y % 2) 1) (zero-div (2 ^ j))

-- is accepted on every good shape
pub empty_accepted : (n r s e len : ℕ) → Limits n r s e → Good n r s → len ≡ bytes_of n r e → Accepted n r s e len 0
empty_accepted n r s e len l g q =
    record {
      limits = l;
      good = g;
      sized = q;
      strips = lt-leb (2 ^ (n + 1)) 0 (pow_pos (n + 1));
      few = omega (arith, zero_count 64 (lost_in 0) (λ j h. empty_lost j));
    }

-- ---- pairs

-- every pair of strips of a good shape, and every single strip as a pair with itself, is decided by the survivors
pub pair_decided : (n r s e a b : ℕ) → Limits n r s e → Good n r s → a ≤ b → b ≤ n → Decided (code (shift n r s)) (pair a b)
pair_decided n r s e a b l g le lb = go (dec_lt a b) (ℕ_discrete a 0)
  where
    two : (c d : ℕ) → c < d → d ≤ n → Decided (code (shift n r s)) (pair c d)
    two = good_decided n r s l.s_low l.s_high g

    -- a strip with itself is fewer than that strip with another
    alone : (c d : ℕ) → b ≡ a → pair c d a ≡ true → Fewer (pair a b) (pair c d)
    alone c d same e = record { also = λ j y. both j (pair_yes a b j y) }
      where
        both : (j : ℕ) → (j ≡ a) ⊎ (j ≡ b) → pair c d j ≡ true
        both j (inl q) = ap (pair c d) q ∙ e
        both j (inr q) = ap (pair c d) (q ∙ same) ∙ e

    go : Dec (a < b) → Dec (a ≡ 0) → Decided (code (shift n r s)) (pair a b)
    go (yes h) z = two a b h lb
    go (no h) (yes z) =
        decided_fewer (code (shift n r s)) (pair a b) (pair 0 1) (alone 0 1 (omega arith) (ap (pair 0 1) z ∙ pair_left 0 1)) (two 0 1 (omega arith) (omega (arith, l.n_low)))
    go (no h) (no z) =
        decided_fewer (code (shift n r s)) (pair a b) (pair 0 a) (alone 0 a (omega arith) (pair_right 0 a)) (two 0 a (omega arith) (omega arith))

-- the lost strips of an accepted mask: none, or a pair, which is one strip where its two are the same
pub data Losses (n mask : ℕ) : Type 0 where
  nothing : mask ≡ 0 → ((j : ℕ) → lost_in mask j ≡ false) → Losses n mask
  pairs : (a b : ℕ) → FirstLost (lost_in mask) a → LastLost (lost_in mask) b → a ≤ b → b ≤ n → ((j : ℕ) → lost_in mask j ≡ pair a b j) → Losses n mask

-- a mask without a one above bit n fits in 64
mask_fits : (n mask : ℕ) → n ≤ 32 → above_test mask n ≡ false → mask < 2 ^ 64
mask_fits n mask l e =
    let h : n + 1 ≤ 64 = omega arith in
    lt_of_lt_of_le (leb-false (2 ^ (n + 1)) mask e) (pow_mono h)

pub losses : (n r s e len mask : ℕ) → Accepted n r s e len mask → Losses n mask
losses n r s e len mask x = go (ℕ_discrete mask 0)
  where
    fits : mask < 2 ^ 64
    fits = mask_fits n mask x.limits.n_high x.strips

    some : (a b : ℕ) → FirstLost (lost_in mask) a → LastLost (lost_in mask) b → Losses n mask
    some a b f g = pairs a b f g (first_last (lost_in mask) a b f g) (above_last mask n b x.strips g) (pair_lost (lost_in mask) a b f g x.few)

    go : Dec (mask ≡ 0) → Losses n mask
    go (yes z) = nothing z (λ j. ap (λ (m : ℕ). lost_in m j) z ∙ empty_lost j)
    go (no z) =
        let p : 0 < mask = omega arith in
        some (count_trailing_zeros 64 mask) (63 - count_leading_zeros 64 mask) (trailing_first mask fits p) (leading_last mask fits p)

-- so the survivors decide the stripe
pub lost_decided : (n r s e len mask : ℕ) → Accepted n r s e len mask → Decided (code (shift n r s)) (lost_in mask)
lost_decided n r s e len mask x = go (losses n r s e len mask x)
  where
    within : (a b : ℕ) → a ≤ b → b ≤ n → ((j : ℕ) → lost_in mask j ≡ true → pair a b j ≡ true) → Decided (code (shift n r s)) (lost_in mask)
    within a b le lb h =
        decided_fewer (code (shift n r s)) (lost_in mask) (pair a b) (record { also = h }) (pair_decided n r s e a b x.limits x.good le lb)

    go : Losses n mask → Decided (code (shift n r s)) (lost_in mask)
    go (nothing z f) = within 0 0 (omega arith) (omega arith) (λ j y. clash (sym (f j) ∙ y))
    go (pairs a b f g le lb same) = within a b le lb (λ j y. sym (same j) ∙ y)
