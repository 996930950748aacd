-- What the walker's searches answer. Assumes nothing.
-- D i j == the diagonal of row i in strip j    g == the flags    t == the answer
use Rattle.std.specs.Prelude.{ℕ, ◌<◌, ◌≤◌, ◌≡◌, List, Bool, true, false, Option, Some, None}
use Rattle.code.specs.Layout.{Layout}
use Rattle.code.specs.Live.{Line, Lone}
use Rattle.walker.specs.Flags.{Marked}

-- whether strip c has data, and that of row i lies on diagonal d and is not flagged
pub record OpenAt (D : ℕ → ℕ → ℕ) (n : ℕ) (g : List (List Bool)) (c d i : ℕ) (t : Bool) : Type 0 where
  pub below : t ≡ true → c < n
  pub on : t ≡ true → D i c ≡ d
  pub new : t ≡ true → Marked g i c → ⊥
  pub shut : t ≡ false → c < n → D i c ≡ d → Marked g i c

-- in the rows from `from` on, before row `end`, every lost element of diagonal d is flagged
pub record Passed (D : ℕ → ℕ → ℕ) (n : ℕ) (lost : ℕ → Bool) (g : List (List Bool)) (d from end : ℕ) : Type 0 where
  pub marked : (i j : ℕ) → from ≤ i → i < end → j < n → lost j ≡ true → D i j ≡ d → Marked g i j

-- row i is the first from `from` on with an unknown element of diagonal d, which is in strip j
pub record NextAt (D : ℕ → ℕ → ℕ) (n r : ℕ) (lost : ℕ → Bool) (g : List (List Bool)) (d from i j : ℕ) : Type 0 where
  pub low : from ≤ i
  pub row_below : i < r
  pub strip_below : j < n
  pub on : D i j ≡ d
  pub is_lost : lost j ≡ true
  pub new : Marked g i j → ⊥
  pub before : Passed D n lost g d from i

abbrev pub NextOn : (ℕ → ℕ → ℕ) → ℕ → ℕ → (ℕ → Bool) → List (List Bool) → ℕ → ℕ → Option (ℕ × ℕ) → Type 0
NextOn D n r lost g d from (Some p) = NextAt D n r lost g d from p.0 p.1
NextOn D n r lost g d from None = Passed D n lost g d from r

-- the one unknown element of the line K, or that it gives none
abbrev pub FoundOn : Layout → (ℕ → Bool) → List (List Bool) → Line → Option (ℕ × ℕ) → Type 0
FoundOn L lost g K (Some p) = Lone L lost (Marked g) K p.0 p.1
FoundOn L lost g K None = (i j : ℕ) → Lone L lost (Marked g) K i j → ⊥

-- an element of strip c that is not flagged
pub record Gap (n r : ℕ) (g : List (List Bool)) (c : ℕ) : Type 0 where
  pub row : ℕ
  pub row_below : row < r
  pub strip_below : c < n
  pub new : Marked g row c → ⊥

-- whether every element of strip c is flagged; strip n has no data
pub record StripBuilt (n r : ℕ) (g : List (List Bool)) (c : ℕ) (t : Bool) : Type 0 where
  pub all : t ≡ true → c < n → (i : ℕ) → i < r → Marked g i c
  pub some : t ≡ false → Gap n r g c
