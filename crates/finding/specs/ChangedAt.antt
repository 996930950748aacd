-- ONE CHANGED ELEMENT: a stripe with another element at one place. Assumes nothing.
-- s, t == the stripe before and after    p == the place whose element changed
use Rattle.std.specs.Prelude.{◌≡◌, ◌≢◌, List, ℕ, ◌<◌, length}
use Rattle.code.specs.Place.{at}
use Rattle.code.specs.Layout.{Layout, places}

-- t is s with another element at place p, and nothing else changed
pub record ChangedAt (L : Layout) (e p : ℕ) (s t : List ℕ) : Type 0 where
  pub long : length t ≡ length s
  pub others : (q k : ℕ) → q < places L → q ≢ p → k < e → at t e k q ≡ at s e k q
  -- a byte that differs
  pub byte : ℕ
  pub within : byte < e
  pub differs : at s e byte p ≢ at t e byte p
