-- Laws of the number of a rebuild: what comes last decides exactly where the call is accepted. Assumes nothing.
-- len == the bytes of the lent buffer
use Rattle.std.specs.Prelude.{◌≡◌, refl, Bool, true, false, ℕ, ◌≤◌, eqb, ltb}
use Rattle.std.proofs.Common.{sym, ap, ◌∙◌, arith, eqb-true, ltb-false, le-ltb}
use Rattle.std.proofs.Math.Decide.{ℕ_discrete}
use Rattle.code.specs.Sum.{pick}
use Rattle.code.specs.Below.{count}
use Rattle.shape.specs.Limits.{Limits, limit_number}
use Rattle.shape.specs.LimitsLaws.{limits_number, zero_limits, broken_number}
use Rattle.shape.specs.GoodTest.{good_test, test_good}
use Rattle.shape.specs.Mask.{lost_in, above_test}
use Rattle.shape.specs.Call.{bytes_of}
use Rattle.shape.specs.JudgedCall.{last_number}
use Rattle.rebuild.specs.Rebuild.{rebuild_number}
use Rattle.rebuild.specs.RebuildNumber.{Accepted, Numbered, early, late}

-- accepted, the number is what comes last
pub accepted_number : (n r s e len mask last : ℕ) → Accepted n r s e len mask → rebuild_number n r s e len mask last ≡ last
accepted_number n r s e len mask last a =
    last_number n r s e a.limits a.good len (pick (above_test mask n) 7 (pick (ltb 2 (count 64 (lost_in mask))) 8 last)) a.sized
    ∙ ap (λ (t : Bool). pick t 7 (pick (ltb 2 (count 64 (lost_in mask))) 8 last)) a.strips
    ∙ ap (λ (t : Bool). pick t 8 last) (le-ltb 2 (count 64 (lost_in mask)) a.few)

-- which of the two
pub numbered : (n r s e len mask : ℕ) → Numbered n r s e len mask
numbered n r s e len mask = go (ℕ_discrete (limit_number n r s e 0) 0)
  where
    rest : Bool → Bool → Bool → Bool → ℕ → ℕ
    rest a b c d last = pick a (pick b (pick c 7 (pick d 8 last)) 6) 5

    tests : ℕ → ℕ
    tests last = rest (good_test n r s) (eqb len (bytes_of n r e)) (above_test mask n) (ltb 2 (count 64 (lost_in mask))) last

    inner : Limits n r s e → (a b c d : Bool) → good_test n r s ≡ a → eqb len (bytes_of n r e) ≡ b → above_test mask n ≡ c
        → ltb 2 (count 64 (lost_in mask)) ≡ d → ((last : ℕ) → rebuild_number n r s e len mask last ≡ rest a b c d last) → Numbered n r s e len mask
    inner l false b c d p q v w h = early 5 (omega arith) (omega arith) h
    inner l true false c d p q v w h = early 6 (omega arith) (omega arith) h
    inner l true true true d p q v w h = early 7 (omega arith) (omega arith) h
    inner l true true false true p q v w h = early 8 (omega arith) (omega arith) h
    inner l true true false false p q v w h =
        late (record {
          limits = l;
          good = test_good n r s p;
          sized = eqb-true len (bytes_of n r e) q;
          strips = v;
          few = ltb-false 2 (count 64 (lost_in mask)) w;
        })

    go : Dec (limit_number n r s e 0 ≡ 0) → Numbered n r s e len mask
    go (no z) =
        let y : 1 ≤ limit_number n r s e 0 = omega arith in
        let most : limit_number n r s e 0 ≤ 4 = (broken_number n r s e 0 y).1 in
        early (limit_number n r s e 0) y (omega arith) (λ last. (broken_number n r s e (tests last) y).0)
    go (yes z) =
        let l = zero_limits n r s e z in
        inner l (good_test n r s) (eqb len (bytes_of n r e)) (above_test mask n) (ltb 2 (count 64 (lost_in mask))) refl refl refl refl
        (λ last. limits_number n r s e (tests last) l)

-- the number 0 is that of an accepted call
pub number_accepted : (n r s e len mask : ℕ) → rebuild_number n r s e len mask 0 ≡ 0 → Accepted n r s e len mask
number_accepted n r s e len mask z = go (numbered n r s e len mask)
  where
    go : Numbered n r s e len mask → Accepted n r s e len mask
    go (early v low high h) = absurd (omega (arith, sym (h 0) ∙ z))
    go (late k) = k
