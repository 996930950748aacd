-- SOUND, as 01 has it: every H and every U has its published value. Assumes nothing.
-- f p == one byte of the element at place p; a stripe is sound when it is so in every byte k
use Rattle.std.specs.Prelude.{◌≡◌, List, ℕ, ◌*◌, ◌<◌, eqb, length, get_or}
use Rattle.code.specs.Sum.{sum_to, only}
use Rattle.code.specs.Place.{at}
use Rattle.code.specs.Layout.{Layout, X, H, U, places}

-- the sum of all data whose diagonal is d
unfoldable pub along : Layout → (ℕ → ℕ → ℕ) → ℕ → ℕ
along L x d = sum_to L.r (λ i. sum_to L.n (λ j. only (eqb (L.diagonal i j) d) (x i j)))

-- H(i) is the sum of X(i, j) over all j (000, formula 2.2); U(d) is the sum of all X(i, j) whose diagonal is d (01)
pub record Sound (L : Layout) (f : ℕ → ℕ) : Type 0 where
  pub rows : (i : ℕ) → i < L.r → f (H L i) ≡ sum_to L.n (λ j. f (X L i j))
  pub diagonals : (d : ℕ) → d < L.n → f (U L d) ≡ along L (λ i j. f (X L i j)) d

-- the same with U(d) as the sum along the rows, each at the strip where it meets d (000, formula 3.1 and 3.3; 002, formula 2 up to r - 1)
pub record Published (L : Layout) (f : ℕ → ℕ) : Type 0 where
  pub rows : (i : ℕ) → i < L.r → f (H L i) ≡ sum_to L.n (λ j. f (X L i j))
  pub diagonals : (d : ℕ) → d < L.n → f (U L d) ≡ sum_to L.r (λ i. f (X L i (L.meets i d)))

-- s is a stripe of e-byte elements: as many bytes as e n (r + 1) + e r
pub record Stripe (L : Layout) (e : ℕ) (s : List ℕ) : Type 0 where
  pub size : length s ≡ e * places L
  pub bytes : (x : ℕ) → x < length s → get_or s x 0 < 256

-- a stripe is sound when every H and U has its value in every byte
pub record SoundStripe (L : Layout) (e : ℕ) (s : List ℕ) : Type 0 where
  pub stripe : Stripe L e s
  pub each : (k : ℕ) → k < e → Sound L (at s e k)
