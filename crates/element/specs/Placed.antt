-- The same by places: of a stripe of e-byte elements, place p starts at byte p e. Assumes nothing.
-- ps == places    os == where their elements start    q == the place that is written    k == a byte of an element
use Rattle.std.specs.Prelude.{◌≡◌, Bool, true, ◌≢◌, ◌⊎◌, List, ℕ, ◌+◌, ◌*◌, ◌≤◌, ◌<◌, length, get_or}
use Rattle.code.specs.Xor.{◌⊕◌}
use Rattle.code.specs.Sum.{sum}
use Rattle.code.specs.Place.{at}

-- os lists where the elements at the places ps start
pub record Offsets (e : ℕ) (ps os : List ℕ) : Type 0 where
  pub long : length os ≡ length ps
  pub each : (i : ℕ) → i < length ps → get_or os i 0 ≡ get_or ps i 0 * e

-- t is s with f 0, .., f (e - 1) as the element at place q
pub record Placed (s : List ℕ) (e q : ℕ) (f : ℕ → ℕ) (t : List ℕ) : Type 0 where
  pub long : length t ≡ length s
  pub here : (k : ℕ) → k < e → at t e k q ≡ f k
  pub there : (p k : ℕ) → k < e → p ≢ q → at t e k p ≡ at s e k p

-- r is true exactly when the elements at the places ps sum to zero in every byte
pub record TellsAt (s : List ℕ) (e : ℕ) (ps : List ℕ) (r : Bool) : Type 0 where
  pub yes : r ≡ true → (k : ℕ) → k < e → sum (at s e k) ps ≡ 0
  pub no : ((k : ℕ) → k < e → sum (at s e k) ps ≡ 0) → r ≡ true

-- t is s with b k added to byte k of the element at place q, for k from o up to o + m
pub record AddedAt (s : List ℕ) (e q o m : ℕ) (b : ℕ → ℕ) (t : List ℕ) : Type 0 where
  pub long : length t ≡ length s
  pub here : (k : ℕ) → o ≤ k → k < o + m → at t e k q ≡ at s e k q ⊕ b k
  pub there : (p k : ℕ) → k < e → p ≢ q → at t e k p ≡ at s e k p
  pub aside : (p k : ℕ) → k < e → (k < o) ⊎ (o + m ≤ k) → at t e k p ≡ at s e k p
