-- A call of write: how its contract is met, and what the contract says of every line, whatever the call is given. Assumes nothing.
use Rattle.std.specs.Prelude.{◌≡◌, refl, List, ℕ, ◌+◌, ◌<◌, length, Err, Ok}
use Rattle.std.proofs.Common.{sym, ap, ◌∙◌, subst, arith}
use Rattle.std.proofs.Math.Decide.{ℕ_discrete}
use Rattle.code.specs.Sum.{sum}
use Rattle.code.specs.Place.{at}
use Rattle.code.specs.Layout.{X, line}
use Rattle.code.specs.Sound.{Sound}
use Rattle.code.specs.Shift.{shift}
use Rattle.code.proofs.ShiftLaws.{shift_fair}
use Rattle.shape.specs.declared.refusal.Refusal.{Refusal}
use Rattle.shape.specs.Refusal.{refusal_some}
use Rattle.shape.specs.Call.{answer_number, Answered, Answer}
use Rattle.patch.specs.Written.{written_over}
use Rattle.patch.proofs.WrittenLaws.{written_length}
use Rattle.stripe.specs.Encode.{EncodedFrom}
use Rattle.stripe.specs.Write.{write_number, written, Writes}
use Rattle.stripe.specs.WriteLaws.{written_sums, written_sound, written_encoded, written_refused, written_done}
use Rattle.stripe.specs.WriteNumber.{Accepted, number_accepted}

module _ (n r s e i j o : ℕ) (run b : List ℕ) where
  positive : Accepted n r s e (length b) i j o (length run) → 0 < n
  positive y = omega (arith, y.limits.n_low)

  -- ---- how the contract is met

  -- whatever refuses the call, no byte changes
  pub writes_refused : (y : Refusal) → Answered n r s (write_number n r s e (length b) i j o (length run)) (Err y) → Writes n r s e i j o run b b (Err y)
  writes_refused y p =
      record { answer = p; bytes = sym (written_refused n r s e i j o run b (λ z. let w = refusal_some y in omega (arith, p.is))) }

  -- done, the run is written
  pub writes_done : (a : List ℕ) → Answered n r s (write_number n r s e (length b) i j o (length run)) (Ok tt) → a ≡ written_over (shift n r s) e i j o run b
      → Writes n r s e i j o run b a (Ok tt)
  writes_done a p q = record { answer = p; bytes = q ∙ sym (written_done n r s e i j o run b (sym p.is)) }

  -- ---- what it says

  module _ (a : List ℕ) (x : Answer) (w : Writes n r s e i j o run b a x) where
    -- the buffer is as it was, or the run is written into a stripe of a good shape
    cases : (P : List ℕ → Type 0) → P b → (Accepted n r s e (length b) i j o (length run) → P (written_over (shift n r s) e i j o run b)) → P a
    cases P same new = subst P (sym w.bytes) (go (ℕ_discrete (write_number n r s e (length b) i j o (length run)) 0))
      where
        go : Dec (write_number n r s e (length b) i j o (length run) ≡ 0) → P (written n r s e i j o run b)
        go (yes z) = subst P (sym (written_done n r s e i j o run b z)) (new (number_accepted n r s e (length b) i j o (length run) z))
        go (no z) = subst P (sym (written_refused n r s e i j o run b z)) same

    pub write_length : length a ≡ length b
    write_length = cases (λ c. length c ≡ length b) refl (λ y. written_length (shift n r s) e i j o run b)

    -- every line's sum stays, in every byte
    pub write_sums : (k t : ℕ) → k < e → t < r + n → sum (at a e k) (line (shift n r s) t) ≡ sum (at b e k) (line (shift n r s) t)
    write_sums k t lk lt =
        cases (λ c. sum (at c e k) (line (shift n r s) t) ≡ sum (at b e k) (line (shift n r s) t)) refl
        (λ y. written_sums (shift n r s) e i j o run b (shift_fair n r s (positive y)) y.row y.strip y.sized k t lk lt)

    -- a sound stripe stays sound
    pub write_sound : ((k : ℕ) → k < e → Sound (shift n r s) (at b e k)) → (k : ℕ) → k < e → Sound (shift n r s) (at a e k)
    write_sound sound k lk =
        cases (λ c. Sound (shift n r s) (at c e k)) (sound k lk)
        (λ y. written_sound (shift n r s) e i j o run b (shift_fair n r s (positive y)) y.row y.strip y.sized sound k lk)

    -- and where the write is done it is what encode leaves of any buffer u with the same data
    pub write_encoded : x ≡ Ok tt → ((k : ℕ) → k < e → Sound (shift n r s) (at b e k)) → (u t : List ℕ) → length u ≡ length b
        → ((m q k : ℕ) → m < r → q < n → k < e → at u e k (X (shift n r s) m q) ≡ at a e k (X (shift n r s) m q))
        → EncodedFrom (shift n r s) e u t → t ≡ a
    write_encoded d sound u t lu h p =
        let z : write_number n r s e (length b) i j o (length run) ≡ 0 = sym w.answer.is ∙ ap answer_number d in
        let y = number_accepted n r s e (length b) i j o (length run) z in
        let v : a ≡ written_over (shift n r s) e i j o run b = w.bytes ∙ written_done n r s e i j o run b z in
        written_encoded (shift n r s) e i j o run b (shift_fair n r s (positive y)) y.row y.strip y.sized sound u t lu
        (λ m q k lm lq lk. h m q k lm lq lk ∙ ap (λ (c : List ℕ). at c e k (X (shift n r s) m q)) v) p
        ∙ sym v
