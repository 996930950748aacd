-- Laws of a call's answer: the number and the shape determine it. Assumes nothing.
use Rattle.std.specs.Prelude.{◌≡◌, refl, ℕ, Ok, Err}
use Rattle.std.proofs.Common.{sym, ap, ◌∙◌, arith}
use Rattle.std.proofs.Math.Decide.{ℕ_discrete}
use Rattle.code.specs.Shift.{shift}
use Rattle.code.proofs.Exact.{first_one}
use Rattle.shape.specs.declared.refusal.Refusal.{Refusal}
use Rattle.shape.specs.declared.refusal.Refusal.TheVariants.{Weak}
use Rattle.shape.specs.Refusal.{number_of, lower_of, upper_of, refusal_some, number_determined, weak_of}
use Rattle.shape.specs.Call.{Named, Answer, Answered}

-- an answer is not both
pub done_refused : {A : Type 0} (y : Refusal) → ◌≡◌ {A = Answer} (Ok tt) (Err y) → A
done_refused y q = absurd (let z : ◌≡◌ {A = ℕ} 0 1 = cc in omega arith)

-- refusals of one number, each with the first failing pair where it has one, are the same
pub named_same : (n r s : ℕ) (x y : Refusal) → number_of x ≡ number_of y → Named n r s x → Named n r s y → x ≡ y
named_same n r s x y same p q = go (ℕ_discrete (number_of x) 5)
  where
    go : Dec (number_of x ≡ 5) → x ≡ y
    go (no ne) = number_determined x y ne same
    go (yes k) = at (weak_of x k) (weak_of y (sym same ∙ k))
      where
        at : x ≡ Weak (lower_of x) (upper_of x) → y ≡ Weak (lower_of y) (upper_of y) → x ≡ y
        at ex ey = pairs (first_one (shift n r s) (lower_of x) (upper_of x) (lower_of y) (upper_of y) (p.pair (lower_of x) (upper_of x) ex) (q.pair (lower_of y) (upper_of y) ey))
          where
            pairs : (lower_of x ≡ lower_of y) × (upper_of x ≡ upper_of y) → x ≡ y
            pairs z = cc

pub answered_same : (n r s number : ℕ) (x y : Answer) → Answered n r s number x → Answered n r s number y → x ≡ y
answered_same n r s number (Ok u) (Ok v) p q = refl
answered_same n r s number (Ok u) (Err y) p q = let z = refusal_some y in absurd (omega (arith, p.is, q.is))
answered_same n r s number (Err x) (Ok v) p q = let z = refusal_some x in absurd (omega (arith, p.is, q.is))
answered_same n r s number (Err x) (Err y) p q = ap Err (named_same n r s x y (p.is ∙ sym q.is) (p.named x refl) (q.named y refl))
