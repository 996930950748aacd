-- A code is its lines: lists of places whose bytes sum to zero. No word of rows, diagonals or pairs. Assumes nothing.
-- f p, g p == one byte of the element at place p; a stripe of e-byte elements is e such functions, one for each byte k
-- lost j == whether strip j is lost; a survivor is a place whose strip is not lost
use Rattle.std.specs.Prelude.{ℕ, ◌<◌, ◌≡◌, List, Bool, false, length, get_or}
use Rattle.code.specs.Sum.{sum}

pub record Code : Type 0 where
  -- how many places a stripe has, and how many lines
  pub places : ℕ
  pub lines : ℕ
  -- the places of line t
  pub line : ℕ → List ℕ
  -- the strip on which place p stands
  pub strip : ℕ → ℕ

-- the lines speak of the code's places only
pub record Within (C : Code) : Type 0 where
  pub below : (t v : ℕ) → t < C.lines → v < length (C.line t) → get_or (C.line t) v 0 < C.places

-- sound by lines: every line sums to zero
pub record Balanced (C : Code) (f : ℕ → ℕ) : Type 0 where
  pub zero : (t : ℕ) → t < C.lines → sum f (C.line t) ≡ 0

-- equal at every survivor
pub record Agree (C : Code) (lost : ℕ → Bool) (f g : ℕ → ℕ) : Type 0 where
  pub survivors : (p : ℕ) → p < C.places → lost (C.strip p) ≡ false → f p ≡ g p

-- equal at every place
pub record Same (C : Code) (f g : ℕ → ℕ) : Type 0 where
  pub all : (p : ℕ) → p < C.places → f p ≡ g p

pub record Bytes (C : Code) (f : ℕ → ℕ) : Type 0 where
  pub small : (p : ℕ) → p < C.places → f p < 256

-- the lost set fails: two different sound stripes of bytes agree outside it
pub record Fails (C : Code) (lost : ℕ → Bool) : Type 0 where
  pub one : ℕ → ℕ
  pub other : ℕ → ℕ
  pub one_bytes : Bytes C one
  pub other_bytes : Bytes C other
  pub one_sound : Balanced C one
  pub other_sound : Balanced C other
  pub agree : Agree C lost one other
  pub differ : Same C one other → ⊥

-- the lost set is decided by the survivors: sound stripes that agree outside it are the same
pub record Decided (C : Code) (lost : ℕ → Bool) : Type 0 where
  pub same : (f g : ℕ → ℕ) → Balanced C f → Balanced C g → Agree C lost f g → Same C f g
