-- The HoVer layout: rows, diagonals and their lines, as a code. The shift family is one instance (Shift). Assumes nothing.
-- X L i j == the place of the data of row i in strip j    H L i == of the parity of row i    U L d == of the parity of diagonal d
use Rattle.std.specs.Prelude.{◌≡◌, Bool, true, List, ℕ, ◌+◌, ◌-◌, ◌*◌, ◌<◌, ltb, eqb}
use Rattle.code.specs.Sum.{table, pick}
use Rattle.code.specs.Code.{Code}
use Rattle.code.specs.Place.{place, strip_of}

pub record Layout : Type 0 where
  -- data strips, and rows of data
  pub n : ℕ
  pub r : ℕ
  -- the diagonal of row i of strip j, and the strip where row i meets diagonal d
  pub diagonal : ℕ → ℕ → ℕ
  pub meets : ℕ → ℕ → ℕ
  -- the strip that stores the parity of diagonal d, and the diagonal whose parity strip j stores
  pub home : ℕ → ℕ
  pub owner : ℕ → ℕ

-- all stay among the n; in each row diagonal and meets undo each other, and so do home and owner
pub record Fair (L : Layout) : Type 0 where
  pub diagonal_lt : (i j : ℕ) → i < L.r → j < L.n → L.diagonal i j < L.n
  pub meets_lt : (i d : ℕ) → i < L.r → d < L.n → L.meets i d < L.n
  pub meets_diagonal : (i j : ℕ) → i < L.r → j < L.n → L.meets i (L.diagonal i j) ≡ j
  pub diagonal_meets : (i d : ℕ) → i < L.r → d < L.n → L.diagonal i (L.meets i d) ≡ d
  pub home_lt : (d : ℕ) → d < L.n → L.home d < L.n
  pub owner_lt : (j : ℕ) → j < L.n → L.owner j < L.n
  pub home_owner : (j : ℕ) → j < L.n → L.home (L.owner j) ≡ j
  pub owner_home : (d : ℕ) → d < L.n → L.owner (L.home d) ≡ d

-- no strip of data has a diagonal twice
pub record Latin (L : Layout) : Type 0 where
  pub down : (i m j : ℕ) → i < L.r → m < L.r → j < L.n → L.diagonal i j ≡ L.diagonal m j → i ≡ m

module _ (L : Layout) where
  -- the rows of a data strip: r of data and one of v-parity
  abbrev pub height : ℕ
  height = L.r + 1

  abbrev pub X : ℕ → ℕ → ℕ
  X i j = place height i j

  abbrev pub H : ℕ → ℕ
  H i = place height i L.n

  abbrev pub U : ℕ → ℕ
  U d = place height L.r (L.home d)

  -- how many places a stripe has: n (r + 1) + r
  abbrev pub places : ℕ
  places = L.n * height + L.r

  -- row i: X i 0, .., X i (n - 1), H i
  unfoldable pub row_line : ℕ → List ℕ
  row_line i = table (L.n + 1) (λ j. X i j)

  -- diagonal d: X 0 (meets 0 d), .., X (r - 1) (meets (r - 1) d), U d
  unfoldable pub diagonal_line : ℕ → List ℕ
  diagonal_line d = table (L.r + 1) (λ i. pick (ltb i L.r) (X i (L.meets i d)) (U d))

  -- the rows, then the diagonals
  unfoldable pub line : ℕ → List ℕ
  line t = pick (ltb t L.r) (row_line t) (diagonal_line (t - L.r))

  -- the layout as a code by lines
  abbrev pub code : Code
  code = record { places = places; lines = L.r + L.n; line = line; strip = strip_of height }

-- the strips a and b are lost
abbrev pub pair : ℕ → ℕ → ℕ → Bool
pair a b j = pick (eqb j a) true (eqb j b)
