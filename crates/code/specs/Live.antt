-- Live lines and their one unknown data element: what a chain goes by. Assumes nothing.
-- lost j == strip j is lost    B i j == the element of row i in strip j is built    K == a line
-- A line is live where its own parity survives; an element is unknown where it is lost and not built.
use Rattle.std.specs.Prelude.{ℕ, ◌<◌, ◌≡◌, Bool, true, false, ◌≢◌, ◌⊎◌}
use Rattle.code.specs.Layout.{Layout}

pub data Line : Type 0 where
  row : ℕ → Line
  diagonal : ℕ → Line

-- the data of row i in strip j lies on the line
abbrev pub On : Layout → Line → ℕ → ℕ → Type 0
On L (row x) i j = i ≡ x
On L (diagonal d) i j = L.diagonal i j ≡ d

abbrev pub Live : Layout → (ℕ → Bool) → Line → Type 0
Live L lost (row x) = lost L.n ≡ false
Live L lost (diagonal d) = lost (L.home d) ≡ false

-- the element survives, or it is built
pub data Known (lost : ℕ → Bool) (B : ℕ → ℕ → Type 0) (i j : ℕ) : Type 0 where
  survives : lost j ≡ false → Known lost B i j
  built : B i j → Known lost B i j

-- the live line K has exactly one unknown data element, that of row i in strip j
pub record Lone (L : Layout) (lost : ℕ → Bool) (B : ℕ → ℕ → Type 0) (K : Line) (i j : ℕ) : Type 0 where
  pub live : Live L lost K
  pub row_below : i < L.r
  pub strip_below : j < L.n
  pub on : On L K i j
  pub is_lost : lost j ≡ true
  pub new : B i j → ⊥
  pub rest : (h l : ℕ) → h < L.r → l < L.n → On L K h l → (h ≢ i) ⊎ (l ≢ j) → Known lost B h l

-- no live line has exactly one unknown
pub record Finished (L : Layout) (lost : ℕ → Bool) (B : ℕ → ℕ → Type 0) : Type 0 where
  pub none : (K : Line) (i j : ℕ) → Lone L lost B K i j → ⊥
