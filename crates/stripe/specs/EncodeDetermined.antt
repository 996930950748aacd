-- What encode answers: how its contract is met, and that it determines the answer and every byte. Assumes nothing.
use Rattle.std.specs.Prelude.{◌≡◌, refl, List, ℕ, length, Err, Ok}
use Rattle.std.proofs.Common.{sym, ap, ◌∙◌}
use Rattle.code.specs.Shift.{shift}
use Rattle.code.specs.Bound.{Good}
use Rattle.shape.specs.declared.refusal.Refusal.{Refusal}
use Rattle.shape.specs.Limits.{Limits}
use Rattle.shape.specs.JudgedCall.{last_number}
use Rattle.shape.specs.Call.{bytes_of, answer_number, call_number, Answered, Answer}
use Rattle.shape.specs.CallLaws.{done_refused, answered_same}
use Rattle.shape.specs.LimitsLaws.{limits_fair}
use Rattle.stripe.specs.OpenedLaws.{call_zero}
use Rattle.stripe.specs.Encode.{EncodedFrom, Encodes}
use Rattle.stripe.specs.EncodeLaws.{encoded_same}

-- ---- how it is met

module _ (n r s e : ℕ) (before : List ℕ) where
  -- refused, and no byte changed
  pub encodes_refused : (y : Refusal) → Answered n r s (call_number n r s e (length before) 0) (Err y) → Encodes n r s e before before (Err y)
  encodes_refused y a = record { answer = a; done = λ q. done_refused y (sym q); refused = λ z q. refl }

  -- a good shape and the stripe's size: done
  pub encodes_done : Limits n r s e → Good n r s → (after : List ℕ) → length before ≡ bytes_of n r e → EncodedFrom (shift n r s) e before after
      → Encodes n r s e before after (Ok tt)
  encodes_done l g after q h =
      record {
        answer = record { is = sym (last_number n r s e l g (length before) 0 q); named = λ y z. done_refused y z };
        done = λ z. h;
        refused = λ y z. done_refused y z;
      }

-- ---- it leaves nothing open

pub encode_determined : (n r s e : ℕ) (b a c : List ℕ) (x y : Answer) → Encodes n r s e b a x → Encodes n r s e b c y → (x ≡ y) × (a ≡ c)
encode_determined n r s e b a c x y p q = (same, bytes x refl)
  where
    same : x ≡ y
    same = answered_same n r s (call_number n r s e (length b) 0) x y p.answer q.answer

    bytes : (z : Answer) → x ≡ z → a ≡ c
    bytes (Ok tt) w =
        let z = call_zero n r s e (length b) 0 (sym p.answer.is ∙ ap answer_number w) in
        encoded_same (shift n r s) (limits_fair n r s _ z.limits) e b a c z.sized (p.done w) (q.done (sym same ∙ w))
    bytes (Err z) w = p.refused z w ∙ sym (q.refused z (sym same ∙ w))
