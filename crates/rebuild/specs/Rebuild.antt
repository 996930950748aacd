-- REBUILD mends the lost strips of a mask: the stripe becomes the one sound stripe that agrees with the survivors; where there is none it
-- answers 10 and clears the lost strips; refused otherwise, it changes no byte. Assumes nothing.
-- lost j == strip j is lost    rebuild_number n r s e len mask last == the first of the numbers 1 to 8 whose line holds; last where none does
use Rattle.std.specs.Prelude.{◌≡◌, ◌≢◌, Bool, true, List, ℕ, ◌<◌, ltb, length, Ok, Err}
use Rattle.code.specs.Sum.{pick}
use Rattle.code.specs.Below.{count}
use Rattle.code.specs.Code.{Agree}
use Rattle.code.specs.Place.{strip_of, at}
use Rattle.code.specs.Layout.{Layout, height, places, code}
use Rattle.code.specs.Sound.{SoundStripe}
use Rattle.code.specs.Shift.{shift}
use Rattle.shape.specs.declared.refusal.Refusal.{Refusal}
use Rattle.shape.specs.declared.refusal.Refusal.TheVariants.{NoSound}
use Rattle.shape.specs.Mask.{lost_in, above_test}
use Rattle.shape.specs.Call.{call_number, Answered, Answer}

-- line 7: the mask has a one above bit n; line 8: it has more than two ones
abbrev pub rebuild_number : ℕ → ℕ → ℕ → ℕ → ℕ → ℕ → ℕ → ℕ
rebuild_number n r s e len mask last =
    call_number n r s e len (pick (above_test mask n) 7 (pick (ltb 2 (count 64 (lost_in mask))) 8 last))

-- what comes last, where none of 1 to 8 holds: 0 where it is done, 10 where it is not; done and none below say when
abbrev pub last_of : Answer → ℕ
last_of (Ok u) = 0
last_of (Err y) = 10

-- after has the length and every survivor of before
pub record Kept (L : Layout) (e : ℕ) (lost : ℕ → Bool) (before after : List ℕ) : Type 0 where
  pub size : length after ≡ length before
  pub survivors : (k : ℕ) → k < e → Agree (code L) lost (at before e k) (at after e k)

-- some sound stripe agrees with the survivors of s
pub record Agreeable (L : Layout) (e : ℕ) (lost : ℕ → Bool) (s : List ℕ) : Type 0 where
  pub stripe : List ℕ
  pub sound : SoundStripe L e stripe
  pub agree : (k : ℕ) → k < e → Agree (code L) lost (at s e k) (at stripe e k)

-- after is a sound stripe with the survivors of before
pub record Mended (L : Layout) (e : ℕ) (lost : ℕ → Bool) (before after : List ℕ) : Type 0 where
  pub kept : Kept L e lost before after
  pub sound : SoundStripe L e after

-- the survivors of before agree with no sound stripe; after has them, and zero in every byte of the lost strips
pub record Cleared (L : Layout) (e : ℕ) (lost : ℕ → Bool) (before after : List ℕ) : Type 0 where
  pub kept : Kept L e lost before after
  pub zero : (p k : ℕ) → p < places L → k < e → lost (strip_of (height L) p) ≡ true → at after e k p ≡ 0
  pub none : Agreeable L e lost before → ⊥

-- rebuild on the buffer before leaves after and answers x: 0 to 8, or 10
pub record Rebuilds (n r s e mask : ℕ) (before after : List ℕ) (x : Answer) : Type 0 where
  pub answer : Answered n r s (rebuild_number n r s e (length before) mask (last_of x)) x
  pub done : x ≡ Ok tt → Mended (shift n r s) e (lost_in mask) before after
  pub none : x ≡ Err NoSound → Cleared (shift n r s) e (lost_in mask) before after
  pub refused : (y : Refusal) → x ≡ Err y → y ≢ NoSound → after ≡ before

-- it is done or it clears
pub data Ended (L : Layout) (e : ℕ) (lost : ℕ → Bool) (before after : List ℕ) : Answer → Type 0 where
  is_mended : Mended L e lost before after → Ended L e lost before after (Ok tt)
  is_cleared : Cleared L e lost before after → Ended L e lost before after (Err NoSound)
