-- ENCODE keeps all data and sets every H and U; refused, it changes no byte. Assumes nothing.
use Rattle.std.specs.Prelude.{◌≡◌, List, ℕ, ◌<◌, length, Ok, Err}
use Rattle.code.specs.Place.{at}
use Rattle.code.specs.Layout.{Layout, X}
use Rattle.code.specs.Sound.{Sound}
use Rattle.code.specs.Shift.{shift}
use Rattle.shape.specs.declared.refusal.Refusal.{Refusal}
use Rattle.shape.specs.Call.{call_number, Answered, Answer}

-- after is sound, and has the data of before
pub record EncodedFrom (L : Layout) (e : ℕ) (before after : List ℕ) : Type 0 where
  pub size : length after ≡ length before
  pub elements : (i j k : ℕ) → i < L.r → j < L.n → k < e → at after e k (X L i j) ≡ at before e k (X L i j)
  pub sound : (k : ℕ) → k < e → Sound L (at after e k)

-- encode on the buffer before leaves after and answers x: 0 to 6
pub record Encodes (n r s e : ℕ) (before after : List ℕ) (x : Answer) : Type 0 where
  pub answer : Answered n r s (call_number n r s e (length before) 0) x
  pub done : x ≡ Ok tt → EncodedFrom (shift n r s) e before after
  pub refused : (y : Refusal) → x ≡ Err y → after ≡ before
