-- Laws of write, on any buffer of a stripe's length: every line's sum stays, so a sound stripe stays sound, and is what encoding the changed
-- data from the start leaves. A refused write changes nothing. Assumes nothing.
use Rattle.std.specs.Prelude.{◌≡◌, ◌≢◌, Bool, List, ℕ, ◌+◌, ◌*◌, ◌<◌, length}
use Rattle.std.proofs.Common.{sym, ◌∙◌, eq-eqb, ne_eqb}
use Rattle.std.proofs.Math.Path.{ap}
use Rattle.code.specs.Sum.{sum, pick}
use Rattle.code.specs.Place.{at}
use Rattle.code.specs.Layout.{Layout, Fair, X, places, line}
use Rattle.code.specs.Sound.{Sound}
use Rattle.code.specs.Change.{changed_line, changed_sound}
use Rattle.code.specs.Shift.{shift}
use Rattle.shape.specs.CallLaws.{answered_same}
use Rattle.patch.specs.Written.{written_over}
use Rattle.patch.proofs.WrittenLaws.{written_length, written_changed}
use Rattle.stripe.specs.Encode.{EncodedFrom}
use Rattle.stripe.specs.Write.{write_number, written, Writes}
use Rattle.stripe.specs.EncodeLaws.{encoded_same}
use Rattle.shape.specs.Call.{Answer}

module _ (L : Layout) (e i j o : ℕ) (run s : List ℕ) (F : Fair L) (li : i < L.r) (lj : j < L.n) (size : length s ≡ e * places L) where
  -- every line's sum stays, in every byte
  pub written_sums : (k t : ℕ) → k < e → t < L.r + L.n → sum (at (written_over L e i j o run s) e k) (line L t) ≡ sum (at s e k) (line L t)
  written_sums k t lk lt =
      changed_line L F i j _ li lj (at s e k) (at (written_over L e i j o run s) e k) (written_changed L e i j o run s F li lj size k lk) t lt

  -- so a sound stripe stays sound
  pub written_sound : ((k : ℕ) → k < e → Sound L (at s e k)) → (k : ℕ) → k < e → Sound L (at (written_over L e i j o run s) e k)
  written_sound sound k lk =
      changed_sound L F i j _ li lj (at s e k) (at (written_over L e i j o run s) e k) (written_changed L e i j o run s F li lj size k lk) (sound k lk)

  -- and is what encode leaves of any buffer u with the changed data
  pub written_encoded : ((k : ℕ) → k < e → Sound L (at s e k)) → (u t : List ℕ) → length u ≡ length s
      → ((m q k : ℕ) → m < L.r → q < L.n → k < e → at u e k (X L m q) ≡ at (written_over L e i j o run s) e k (X L m q))
      → EncodedFrom L e u t → t ≡ written_over L e i j o run s
  written_encoded sound u t lu h p =
      encoded_same L F e u t (written_over L e i j o run s) (lu ∙ size) p
      (record {
        size = written_length L e i j o run s ∙ sym lu;
        elements = λ m q k lm lq lk. sym (h m q k lm lq lk);
        sound = written_sound sound;
      })

-- ---- the call

module _ (n r s e i j o : ℕ) (run b : List ℕ) where
  -- a refused write is the identity
  pub written_refused : write_number n r s e (length b) i j o (length run) ≢ 0 → written n r s e i j o run b ≡ b
  unfolding written
  written_refused ne = ap (λ (t : Bool). pick t (written_over (shift n r s) e i j o run b) b) (ne_eqb (write_number n r s e (length b) i j o (length run)) 0 ne)

  -- one that is done writes the run
  pub written_done : write_number n r s e (length b) i j o (length run) ≡ 0 → written n r s e i j o run b ≡ written_over (shift n r s) e i j o run b
  unfolding written
  written_done z = ap (λ (t : Bool). pick t (written_over (shift n r s) e i j o run b) b) (eq-eqb (write_number n r s e (length b) i j o (length run)) 0 z)

  -- its contract leaves neither answer nor byte open
  pub write_determined : (a c : List ℕ) (x y : Answer) → Writes n r s e i j o run b a x → Writes n r s e i j o run b c y → (x ≡ y) × (a ≡ c)
  write_determined a c x y p q = (answered_same n r s _ x y p.answer q.answer, p.bytes ∙ sym q.bytes)
