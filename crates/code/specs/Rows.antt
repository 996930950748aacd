-- The rows of 01's bound table and its cases A and E, as one statement over one table. Assumes nothing.
use Rattle.std.specs.Prelude.{ℕ, ◌+◌, ◌*◌, ◌<◌, ◌≤◌, ◌≡◌, ◌↔◌, List, [], ◌∷◌, length, get_or}
use Rattle.code.specs.Place.{at}
use Rattle.code.specs.Layout.{X}
use Rattle.code.specs.Sound.{SoundStripe}
use Rattle.code.specs.Shift.{diagonal, shift}
use Rattle.code.specs.Bound.{Good}

-- ---- what an entry says

-- an entry of the table
pub data Entry : Type 0 where
  -- n, s and the greatest r; 0 where there is none
  greatest : ℕ → ℕ → ℕ → Entry
  -- n, r, s, a row and the diagonals along it
  diagonals : ℕ → ℕ → ℕ → ℕ → List ℕ → Entry
  -- n, r, s, e, the data row by row, and its stripe
  stripe : ℕ → ℕ → ℕ → ℕ → List ℕ → List ℕ → Entry

-- the shape is good from 1 up to g rows, and with no more
pub record Greatest (n s g : ℕ) : Type 0 where
  pub exactly : (r : ℕ) → 0 < r → Good n r s ↔ (r ≤ g)

-- the diagonals of row i
pub record Diagonals (n r s i : ℕ) (ds : List ℕ) : Type 0 where
  pub size : length ds ≡ n
  pub each : (j : ℕ) → j < n → diagonal n r s i j ≡ get_or ds j 0

-- the stripe has that data and is sound
pub record Encodes (n r s e : ℕ) (xs bs : List ℕ) : Type 0 where
  pub elements : (i j k : ℕ) → i < r → j < n → k < e → at bs e k (X (shift n r s) i j) ≡ get_or xs ((i * n + j) * e + k) 0
  pub sound : SoundStripe (shift n r s) e bs

-- what the entry says
abbrev pub Rule : Entry → Type 0
Rule (greatest n s g) = Greatest n s g
Rule (diagonals n r s i ds) = Diagonals n r s i ds
Rule (stripe n r s e xs bs) = Encodes n r s e xs bs

-- ---- the table

-- the bound table; case E; case A
abbrev pub rows : List Entry
rows =
    greatest 3 1 1
    ∷ greatest 4 2 0
    ∷ greatest 6 1 2
    ∷ greatest 6 4 2
    ∷ greatest 7 1 5
    ∷ greatest 7 2 5
    ∷ greatest 8 1 3
    ∷ greatest 8 5 3
    ∷ greatest 9 3 3
    ∷ greatest 9 4 5
    ∷ greatest 12 7 5
    ∷ greatest 31 2 29
    ∷ diagonals 7 4 1 0 (3 ∷ 4 ∷ 5 ∷ 6 ∷ 0 ∷ 1 ∷ 2 ∷ [])
    ∷ stripe 3 1 1 1 (0x11 ∷ 0x22 ∷ 0x44 ∷ []) (0x11 ∷ 0x22 ∷ 0x22 ∷ 0x44 ∷ 0x44 ∷ 0x11 ∷ 0x77 ∷ [])
    ∷ []
