-- The lines that no step used, tested: each sums to zero in every byte, or one does not. Assumes nothing.
-- used == a mark for each line, false where no step used it    s == the stripe
use Rattle.std.specs.Prelude.{◌≡◌, Bool, true, false, ◌≢◌, List, ℕ, ◌+◌, ◌<◌, get_or}
use Rattle.code.specs.Sum.{sum}
use Rattle.code.specs.Place.{at}
use Rattle.code.specs.Layout.{Layout, line}

-- the unused ones of the first m lines sum to zero
pub record Passed (L : Layout) (e : ℕ) (used : List Bool) (s : List ℕ) (m : ℕ) : Type 0 where
  pub zero : (t : ℕ) → t < m → get_or used t false ≡ false → (k : ℕ) → k < e → sum (at s e k) (line L t) ≡ 0

-- an unused line that does not
pub record Failed (L : Layout) (e : ℕ) (used : List Bool) (s : List ℕ) : Type 0 where
  pub t : ℕ
  pub is_line : t < L.r + L.n
  pub unused : get_or used t false ≡ false
  pub byte : ℕ
  pub in_element : byte < e
  pub wrong : sum (at s e byte) (line L t) ≢ 0

pub record Tests (L : Layout) (e : ℕ) (used : List Bool) (s : List ℕ) (x : Bool) : Type 0 where
  pub passed : x ≡ true → (t : ℕ) → t < L.r + L.n → get_or used t false ≡ false → (k : ℕ) → k < e → sum (at s e k) (line L t) ≡ 0
  pub failed : x ≡ false → Failed L e used s
