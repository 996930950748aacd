-- The number of a write and of a read: line 9 in words, when the number is 0, and the answer in each case of a good shape. Assumes nothing.
-- size == the bytes of the lent buffer    len == the bytes of the run, 0 for a read
use Rattle.std.specs.Prelude.{◌≡◌, refl, Bool, true, false, ℕ, ◌+◌, ◌≤◌, ◌<◌, ltb, leb, Err, Ok}
use Rattle.std.proofs.Common.{sym, ap, ◌∙◌, arith, ltb-false, leb-false, le-leb, le-ltb}
use Rattle.std.proofs.lemmas.Bool.{lt-leb}
use Rattle.code.specs.Sum.{pick}
use Rattle.code.specs.SumLaws.{clash}
use Rattle.code.specs.Bound.{Good}
use Rattle.shape.specs.declared.refusal.Refusal.{Refusal}
use Rattle.shape.specs.declared.refusal.Refusal.TheVariants.{Place}
use Rattle.shape.specs.Refusal.{number_of}
use Rattle.shape.specs.Limits.{Limits}
use Rattle.shape.specs.Call.{bytes_of, Answer, Answered}
use Rattle.shape.specs.JudgedCall.{unnamed, last_number}
use Rattle.shape.specs.CallLaws.{done_refused}
use Rattle.stripe.specs.OpenedLaws.{call_zero}
use Rattle.stripe.specs.Write.{place_outside, write_number}

-- ---- line 9

module _ (n r e i j o len : ℕ) where
  -- test by test
  pub outside_row : r ≤ i → place_outside n r e i j o len ≡ true
  outside_row h = simp (le-leb r i h)

  pub outside_strip : i < r → n ≤ j → place_outside n r e i j o len ≡ true
  outside_strip li h = simp (lt-leb r i li, le-leb n j h)

  pub outside_run : i < r → j < n → place_outside n r e i j o len ≡ ltb e (o + len)
  outside_run li lj = simp (lt-leb r i li, lt-leb n j lj)

  -- it does not hold: row, strip and run are inside
  pub inside_place : place_outside n r e i j o len ≡ false → (i < r) × (j < n) × (o + len ≤ e)
  inside_place = go (leb r i) (leb n j) refl refl
    where
      go : (a b : Bool) → leb r i ≡ a → leb n j ≡ b → pick a true (pick b true (ltb e (o + len))) ≡ false → (i < r) × (j < n) × (o + len ≤ e)
      go true b p q h = clash (sym h)
      go false true p q h = clash (sym h)
      go false false p q h = (leb-false r i p, leb-false n j q, ltb-false e (o + len) h)

-- ---- when a write is done

-- a good shape, a stripe's length, and row, strip and run inside
pub record Accepted (n r s e size i j o len : ℕ) : Type 0 where
  pub limits : Limits n r s e
  pub good : Good n r s
  pub sized : size ≡ bytes_of n r e
  pub row : i < r
  pub strip : j < n
  pub run : o + len ≤ e

-- number 0 is given then only
pub number_accepted : (n r s e size i j o len : ℕ) → write_number n r s e size i j o len ≡ 0 → Accepted n r s e size i j o len
number_accepted n r s e size i j o len z =
    let y = call_zero n r s e size (pick (place_outside n r e i j o len) 9 0) z in
    let p = inside_place n r e i j o len (inside (place_outside n r e i j o len) y.later) in
    record { limits = y.limits; good = y.good; sized = y.sized; row = p.0; strip = p.1; run = p.2 }
  where
    inside : (t : Bool) → ◌≡◌ {A = ℕ} (pick t 9 0) 0 → t ≡ false
    inside true w = absurd (omega arith)
    inside false w = refl

-- ---- the answer on a good shape

module _ (n r s e size i j o len : ℕ) (l : Limits n r s e) (g : Good n r s) where
  module _ (q : size ≡ bytes_of n r e) where
    placed : (t : Bool) → place_outside n r e i j o len ≡ t → write_number n r s e size i j o len ≡ pick t 9 0
    placed t w = last_number n r s e l g size (pick (place_outside n r e i j o len) 9 0) q ∙ ap (λ (c : Bool). pick c 9 0) w

    -- 9: row, strip or run outside
    pub answered_outside : place_outside n r e i j o len ≡ true → Answered n r s (write_number n r s e size i j o len) (Err Place)
    answered_outside w = record { is = sym (placed true w); named = λ z v. unnamed n r s z (λ k. five z v k) }
      where
        five : (z : Refusal) → ◌≡◌ {A = Answer} (Err Place) (Err z) → number_of z ≡ 5 → ⊥
        five z v k = let m : Place ≡ z = cc in let y : ◌≡◌ {A = ℕ} 9 5 = ap number_of m ∙ k in omega arith

    -- 0
    pub answered_done : place_outside n r e i j o len ≡ false → Answered n r s (write_number n r s e size i j o len) (Ok tt)
    answered_done w = record { is = sym (placed false w); named = λ z v. done_refused z v }

-- number 0 is given there always
pub accepted_number : (n r s e size i j o len : ℕ) → Accepted n r s e size i j o len → write_number n r s e size i j o len ≡ 0
accepted_number n r s e size i j o len a =
    sym (answered_done n r s e size i j o len a.limits a.good a.sized
    (outside_run n r e i j o len a.row a.strip ∙ le-ltb e (o + len) a.run)).is
