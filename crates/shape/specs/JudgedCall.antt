-- A call begins with the judged shape: where that is refused so is the call, with the same refusal; where it is good the call goes on at
-- line 6. Assumes nothing.
use Rattle.std.specs.Prelude.{◌≡◌, refl, ◌≢◌, Bool, true, false, ℕ, ◌≤◌, eqb, Ok, Err}
use Rattle.std.proofs.Common.{sym, ap, ◌∙◌, arith, eq-eqb, ne_eqb}
use Rattle.std.proofs.Math.Decide.{ℕ_discrete}
use Rattle.code.specs.Sum.{pick}
use Rattle.code.specs.Bound as bound
use Rattle.shape.specs.declared.shapes.Shape.{Shape}
use Rattle.shape.specs.declared.refusal.Refusal.{Refusal}
use Rattle.shape.specs.declared.refusal.Refusal.TheVariants.{Weak, Length}
use Rattle.shape.specs.Refusal.{number_of, lower_of, upper_of, refusal_some, unpaired, weak_of}
use Rattle.shape.specs.Limits.{Limits, limit_number}
use Rattle.shape.specs.LimitsLaws.{limits_number, zero_limits, broken_number}
use Rattle.shape.specs.GoodTest.{good_test, good_tested, test_good}
use Rattle.shape.specs.Call.{bytes_of, call_number, Named, Answer, Answered}
use Rattle.shape.specs.Judge.{shape_number, Judged, judged_number, Judges}

-- a refusal that is no weak shape has no pair to name
pub unnamed : (n r s : ℕ) (x : Refusal) → number_of x ≢ 5 → Named n r s x
unnamed n r s x ne = record { pair = λ a b q. absurd (ne (ap number_of q)) }

module _ (n r s e : ℕ) where
  -- a number other than 0 does not wait for what comes after the shape
  call_refused : (len last : ℕ) → shape_number n r s e ≢ 0 → call_number n r s e len last ≡ shape_number n r s e
  call_refused len last ne = go (ℕ_discrete (limit_number n r s e 0) 0)
    where
      rest : ℕ
      rest = pick (eqb len (bytes_of n r e)) last 6

      inside : Limits n r s e → (t : Bool) → good_test n r s ≡ t → limit_number n r s e (pick t rest 5) ≡ limit_number n r s e (pick t 0 5)
      inside l true q = absurd (ne (limits_number n r s e (pick (good_test n r s) 0 5) l ∙ ap (λ (t : Bool). pick t 0 5) q))
      inside l false q = refl

      go : Dec (limit_number n r s e 0 ≡ 0) → call_number n r s e len last ≡ shape_number n r s e
      go (yes z) = inside (zero_limits n r s e z) (good_test n r s) refl
      go (no z) =
          (broken_number n r s e (pick (good_test n r s) rest 5) (omega arith)).0 ∙ sym (broken_number n r s e (pick (good_test n r s) 0 5) (omega arith)).0

  -- the pair that comes with a refusal is small: number 5 is given within the limits only
  pub named_small : (rest : ℕ) (y : Refusal) → number_of y ≡ limit_number n r s e rest → Named n r s y → (lower_of y ≤ 32) × (upper_of y ≤ 32)
  named_small rest y is named = go (ℕ_discrete (number_of y) 5)
    where
      strips : number_of y ≡ 5 → Dec (limit_number n r s e 0 ≡ 0) → n ≤ 32
      strips k (yes z) = (zero_limits n r s e z).n_high
      strips k (no z) = let b = broken_number n r s e rest (omega arith) in absurd (omega (arith, b.0, b.1, sym is ∙ k))

      go : Dec (number_of y ≡ 5) → (lower_of y ≤ 32) × (upper_of y ≤ 32)
      go (no ne) = let z = unpaired y ne in (omega arith, omega arith)
      go (yes k) =
          let p = named.pair (lower_of y) (upper_of y) (weak_of y k) in
          let l = strips k (ℕ_discrete (limit_number n r s e 0) 0) in
          (omega (arith, p.order, p.within), omega (arith, p.within))

  -- whatever comes after line 6
  pub answered_small : (len last : ℕ) (y : Refusal) → Answered n r s (call_number n r s e len last) (Err y) → (lower_of y ≤ 32) × (upper_of y ≤ 32)
  answered_small len last y a = named_small (pick (good_test n r s) (pick (eqb len (bytes_of n r e)) last 6) 5) y a.is (a.named y refl)

  module _ (x : Judged) (j : Judges n r s e x) where
    -- where the shape is refused, so is the call
    pub refused_answered : (y : Refusal) → x ≡ Err y → (len last : ℕ) → Answered n r s (call_number n r s e len last) (Err y)
    refused_answered y q len last =
        record {
          is = same ∙ sym (call_refused len last (λ z. omega (arith, same, refusal_some y)));
          named = λ z w. record { pair = λ a b v. j.weak a b (q ∙ ap Err (it z w ∙ v)) };
        }
      where
        same : number_of y ≡ shape_number n r s e
        same = sym (ap judged_number q) ∙ j.number

        it : (z : Refusal) → ◌≡◌ {A = Answer} (Err y) (Err z) → y ≡ z
        it z w = cc

    pub refused_small : (y : Refusal) → x ≡ Err y → (lower_of y ≤ 32) × (upper_of y ≤ 32)
    refused_small y q =
        named_small (pick (good_test n r s) 0 5) y (sym (ap judged_number q) ∙ j.number) (record { pair = λ a b z. j.weak a b (q ∙ ap Err z) })

    -- where it is good, it is within the limits and the bound
    module _ (h : Shape) (b : ℕ) (q : x ≡ Ok (h, b)) where
      zero : shape_number n r s e ≡ 0
      zero = sym j.number ∙ ap judged_number q

      pub good_limits : Limits n r s e
      good_limits = go (ℕ_discrete (limit_number n r s e 0) 0)
        where
          go : Dec (limit_number n r s e 0 ≡ 0) → Limits n r s e
          go (yes z) = zero_limits n r s e z
          go (no z) = absurd (z (sym (broken_number n r s e (pick (good_test n r s) 0 5) (omega arith)).0 ∙ zero))

      pub good_good : bound.Good n r s
      good_good = test_good n r s (go (good_test n r s) refl)
        where
          go : (t : Bool) → good_test n r s ≡ t → t ≡ true
          go true e = refl
          go false w = absurd (five (sym (ap (λ (t : Bool). pick t 0 5) w) ∙ sym (limits_number n r s e (pick (good_test n r s) 0 5) good_limits) ∙ zero))
            where
              five : ◌≡◌ {A = ℕ} 5 0 → ⊥
              five z = omega arith

  module _ (l : Limits n r s e) (g : bound.Good n r s) where
    good_number : (len last : ℕ) → call_number n r s e len last ≡ pick (eqb len (bytes_of n r e)) last 6
    good_number len last =
        limits_number n r s e (pick (good_test n r s) (pick (eqb len (bytes_of n r e)) last 6) 5) l
        ∙ ap (λ (t : Bool). pick t (pick (eqb len (bytes_of n r e)) last 6) 5) (good_tested n r s g)

    -- a good shape and the right length: the number is that of what comes after
    pub last_number : (len last : ℕ) → len ≡ bytes_of n r e → call_number n r s e len last ≡ last
    last_number len last q = good_number len last ∙ ap (λ (t : Bool). pick t last 6) (eq-eqb len (bytes_of n r e) q)

    -- a good shape and another length
    pub length_answered : (len last : ℕ) → len ≢ bytes_of n r e → Answered n r s (call_number n r s e len last) (Err Length)
    length_answered len last ne =
        record {
          is = sym (good_number len last ∙ ap (λ (t : Bool). pick t last 6) (ne_eqb len (bytes_of n r e) ne));
          named = λ z w. record { pair = λ a b v. absurd (no_pair z w a b v) };
        }
      where
        no_pair : (z : Refusal) → ◌≡◌ {A = Answer} (Err Length) (Err z) → (a b : ℕ) → z ≡ Weak a b → ⊥
        no_pair z w a b v = let k : ◌≡◌ {A = ℕ} 0 1 = cc in omega arith
