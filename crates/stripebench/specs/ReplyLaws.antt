-- How an answer of the library becomes a reply. Assumes nothing.
use Rattle.std.specs.Prelude.{◌≡◌, Bool, ℕ, Ok, Err}
use Rattle.std.proofs.Common.{sym, ap, ◌∙◌, arith, eq-eqb, ne_eqb}
use Rattle.code.specs.Sum.{pick}
use Rattle.shape.specs.declared.refusal.Refusal.{Refusal}
use Rattle.shape.specs.Refusal.{number_of, refusal_some}
use Rattle.shape.specs.Call.{answer_number, Answered, Answer}
use Rattle.stripebench.specs.declared.replies.Reply.{Reply}
use Rattle.stripebench.specs.Replies.{replied}

-- ---- by the number

pub replied_done : (number : ℕ) (done : Reply) → number ≡ 0 → Ok done ≡ replied number done
replied_done number done z = ap (λ (t : Bool). pick t (Ok done) (Err number)) (sym (eq-eqb number 0 z))

pub replied_refused : (number : ℕ) (done : Reply) (y : Refusal) → number_of y ≡ number → Err (number_of y) ≡ replied number done
replied_refused number done y q =
    ap Err q ∙ ap (λ (t : Bool). pick t (Ok done) (Err number)) (sym (ne_eqb number 0 (λ z. let w = refusal_some y in omega arith)))

-- ---- by the answer

module _ (n r s number : ℕ) (done : Reply) (x : Answer) (a : Answered n r s number x) where
  pub answered_done : x ≡ Ok tt → Ok done ≡ replied number done
  answered_done q = replied_done number done (sym a.is ∙ ap answer_number q)

  pub answered_refused : (y : Refusal) → x ≡ Err y → Err (number_of y) ≡ replied number done
  answered_refused y q = replied_refused number done y (sym (ap answer_number q) ∙ a.is)
