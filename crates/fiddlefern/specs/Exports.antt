-- How the exported calls meet their contracts: each packs the answer of the call below. Assumes nothing.
use Rattle.std.specs.Prelude.{◌≡◌, List, ℕ, ◌+◌, ◌*◌, ◌≤◌, ltb, length, Err, Ok}
use Rattle.std.proofs.Common.{sym, ap, ◌∙◌, subst, mul-le-mul, arith}
use Rattle.code.specs.Sum.{pick}
use Rattle.code.specs.Below.{count}
use Rattle.code.specs.Layout.{X}
use Rattle.code.specs.Shift.{shift}
use Rattle.shape.specs.declared.shapes.Shape.{Shape}
use Rattle.shape.specs.declared.refusal.Refusal.{Refusal}
use Rattle.shape.specs.Answers.{bytes_most}
use Rattle.shape.specs.Call.{call_number, answer_number, Answered, Answer}
use Rattle.shape.specs.Judge.{Judges, Judged}
use Rattle.shape.specs.JudgedCall.{good_limits, answered_small}
use Rattle.shape.specs.Mask.{lost_in, above_test}
use Rattle.finding.specs.declared.Counts.{Counts}
use Rattle.stripe.specs.Encode.{Encodes}
use Rattle.stripe.specs.Write.{place_outside, Writes}
use Rattle.stripe.specs.Read.{read_number}
use Rattle.stripe.specs.Scrub.{Scrubs, Scrubbed}
use Rattle.stripe.specs.WriteNumber.{Accepted, number_accepted}
use Rattle.rebuild.specs.Rebuild.{last_of, Rebuilds}
use Rattle.fiddlefern.specs.Packed.{refusal_packed, judged_packed, answer_packed, counted_packed, scrubbed_packed, SmallAnswer, JudgeAnswer, ReadAnswer, ScrubAnswer}

-- ---- judge

module _ (n r s e : ℕ) (x : Judged) (j : Judges n r s e x) where
  -- a size fits into 32 bits
  pub size_fits : (h : Shape) (b : ℕ) → x ≡ Ok (h, b) → b ≤ 4456448
  size_fits h b q = subst (λ (z : ℕ). z ≤ 4456448) (sym (j.good h b q).1) (bytes_most n r s e (good_limits n r s e x j h b q))

  pub answer_good : (h : Shape) (b : ℕ) → x ≡ Ok (h, b) → JudgeAnswer n r s e (b * 4294967296)
  answer_good h b q = record { judged = x; judges = j; packed = sym (ap judged_packed q) }

  pub answer_refused : (y : Refusal) → x ≡ Err y → (k : ℕ) → k ≡ refusal_packed y → JudgeAnswer n r s e k
  answer_refused y q k z = record { judged = x; judges = j; packed = z ∙ sym (ap judged_packed q) }

-- ---- encode, write and rebuild

answer_small : (n r s e len last : ℕ) (x : Answer) → Answered n r s (call_number n r s e len last) x → SmallAnswer x
answer_small n r s e len last x a =
    record { pair = λ y q. answered_small n r s e len last y (subst (Answered n r s (call_number n r s e len last)) q a) }

pub encode_small : (n r s e : ℕ) (before after : List ℕ) (x : Answer) → Encodes n r s e before after x → SmallAnswer x
encode_small n r s e before after x a = answer_small n r s e (length before) 0 x a.answer

pub write_small : (n r s e i j o : ℕ) (run before after : List ℕ) (x : Answer) → Writes n r s e i j o run before after x → SmallAnswer x
write_small n r s e i j o run before after x a =
    answer_small n r s e (length before) (pick (place_outside n r e i j o (length run)) 9 0) x a.answer

pub rebuild_small : (n r s e mask : ℕ) (before after : List ℕ) (x : Answer) → Rebuilds n r s e mask before after x → SmallAnswer x
rebuild_small n r s e mask before after x a =
    answer_small n r s e (length before)
    (pick (above_test mask n) 7 (pick (ltb 2 (count 64 (lost_in mask))) 8 (last_of x))) x a.answer

-- ---- read

module _ (n r s e i j : ℕ) (b : List ℕ) (x : Answer) (a : Answered n r s (read_number n r s e (length b) i j) x) where
  pub check_small : SmallAnswer x
  check_small = answer_small n r s e (length b) (pick (place_outside n r e i j 0 0) 9 0) x a

  module _ (q : x ≡ Ok tt) where
    accepted : Accepted n r s e (length b) i j 0 0
    accepted = number_accepted n r s e (length b) i j 0 0 (sym a.is ∙ ap answer_number q)

    -- the numbers on the way to the offset are small
    pub height_fits : r + 1 ≤ 33
    height_fits = omega (arith, accepted.limits.r_high)

    pub strip_fits : j * (r + 1) ≤ 1056
    strip_fits = let k : j ≤ 32 = omega (arith, accepted.strip, accepted.limits.n_high) in mul-le-mul k height_fits

    pub place_fits : j * (r + 1) + i ≤ 1088
    place_fits = omega (arith, strip_fits, accepted.row, accepted.limits.r_high)

    pub offset_fits : (j * (r + 1) + i) * e ≤ 4456448
    offset_fits = mul-le-mul place_fits accepted.limits.e_high

    pub read_done : ReadAnswer n r s e i j b ((j * (r + 1) + i) * e * 4294967296)
    read_done = record { answer = x; answered = a; packed = sym (ap (answer_packed (X (shift n r s) i j * e)) q) }

  pub read_refused : (y : Refusal) → x ≡ Err y → (k : ℕ) → k ≡ refusal_packed y → ReadAnswer n r s e i j b k
  read_refused y q k z = record { answer = x; answered = a; packed = z ∙ sym (ap (answer_packed (X (shift n r s) i j * e)) q) }

-- ---- scrub

module _ (n r s e : ℕ) (b : List ℕ) (x : Scrubbed) (c : Scrubs n r s e b x) where
  pub scrub_counted : (d : Counts) → x ≡ Ok d → (k : ℕ) → k ≡ counted_packed d.rows d.diagonals d.finding → ScrubAnswer n r s e b k
  scrub_counted d w k z = record { scrubbed = x; scrubs = c; packed = z ∙ sym (ap scrubbed_packed w) }

  pub scrub_refused : (y : Refusal) → x ≡ Err y → (k : ℕ) → k ≡ refusal_packed y → ScrubAnswer n r s e b k
  scrub_refused y w k z = record { scrubbed = x; scrubs = c; packed = z ∙ sym (ap scrubbed_packed w) }
