-- How scrub's contract is met: a good shape and the stripe's size give the counts and the finding, anything else the refusal of the first line
-- that holds. Assumes nothing.
use Rattle.std.specs.Prelude.{◌≡◌, refl, List, ℕ, length, Ok, Err}
use Rattle.std.proofs.Common.{sym, ap, subst, arith}
use Rattle.code.specs.Bound.{Good}
use Rattle.code.specs.Layout.{Layout}
use Rattle.code.specs.Shift.{shift}
use Rattle.shape.specs.declared.refusal.Refusal.{Refusal}
use Rattle.shape.specs.Limits.{Limits}
use Rattle.shape.specs.JudgedCall.{last_number}
use Rattle.shape.specs.Call.{bytes_of, call_number, Answer, Answered}
use Rattle.finding.specs.declared.Finding.{Finding}
use Rattle.finding.specs.declared.Counts.{Counts}
use Rattle.finding.specs.Found.{Finds}
use Rattle.stripe.specs.Scrub.{Scrubbed, Scrubs, counted_of}

-- an answer is not both
refused_counted : {A : Type 0} (y : Refusal) (c : Counts) → ◌≡◌ {A = Scrubbed} (Err y) (Ok c) → A
refused_counted y c w = absurd (let z : ◌≡◌ {A = ℕ} 0 1 = cc in omega arith)

-- the counts that it finds are these
pub found_counts : (L : Layout) (e : ℕ) (b : List ℕ) (c : Counts) → Finds L e b c → c ≡ counted_of L e b
found_counts L e b c w = same w.rows_are w.diagonals_are w.finding_is
  where
    same : {p q x y : ℕ} {f g : Finding} → p ≡ x → q ≡ y → f ≡ g
        → ◌≡◌ {A = Counts} (record { rows = p; diagonals = q; finding = f }) (record { rows = x; diagonals = y; finding = g })
    same u v w = cc

module _ (n r s e : ℕ) (b : List ℕ) where
  -- a line holds
  pub scrubs_refused : (y : Refusal) → Answered n r s (call_number n r s e (length b) 0) (Err y) → Scrubs n r s e b (Err y)
  scrubs_refused y a = record { number = a.is; named = λ z w. a.named z (it z w); finds = λ c w. refused_counted y c w }
    where
      it : (z : Refusal) → ◌≡◌ {A = Scrubbed} (Err y) (Err z) → ◌≡◌ {A = Answer} (Err y) (Err z)
      it z w = let k : y ≡ z = cc in ap Err k

  -- what a scrub that is not refused answers
  pub counted_is : (c : Counts) → Scrubs n r s e b (Ok c) → c ≡ counted_of (shift n r s) e b
  counted_is c w = found_counts (shift n r s) e b c (w.finds c refl)

  -- a good shape and the stripe's size
  pub scrubs_counted : Limits n r s e → Good n r s → (c : Counts) → length b ≡ bytes_of n r e → Finds (shift n r s) e b c → Scrubs n r s e b (Ok c)
  scrubs_counted l g c q w =
      record {
        number = sym (last_number n r s e l g (length b) 0 q);
        named = λ y z. refused_counted y c (sym z);
        finds = λ d z. subst (λ (k : Counts). Finds (shift n r s) e b k) (it d z) w;
      }
    where
      it : (d : Counts) → ◌≡◌ {A = Scrubbed} (Ok c) (Ok d) → c ≡ d
      it d z = cc
