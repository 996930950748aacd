-- FOUND: the rows whose H is wrong and the diagonals whose U is wrong, each once however many bytes differ, and what that finds. Assumes nothing.
-- wrong_row L e s i == H(i) is not the sum of its row in some byte    wrong_diagonal L e s d == U(d) is not the sum of its diagonal in some byte
use Rattle.std.specs.Prelude.{◌≡◌, Bool, not, List, ℕ, eqb}
use Rattle.code.specs.Sum.{sum_to, pick}
use Rattle.code.specs.Place.{at}
use Rattle.code.specs.Layout.{Layout, X, H, U}
use Rattle.code.specs.Below.{some, count, first}
use Rattle.code.specs.Sound.{along}
use Rattle.finding.specs.declared.Finding.{Finding}
use Rattle.finding.specs.declared.Finding.TheVariants as finding
use Rattle.finding.specs.declared.Counts.{Counts}

abbrev pub wrong_row : Layout → ℕ → List ℕ → ℕ → Bool
wrong_row L e s i = some e (λ k. not (eqb (at s e k (H L i)) (sum_to L.n (λ j. at s e k (X L i j)))))

abbrev pub wrong_diagonal : Layout → ℕ → List ℕ → ℕ → Bool
wrong_diagonal L e s d = some e (λ k. not (eqb (at s e k (U L d)) (along L (λ i j. at s e k (X L i j)) d)))

-- what a wrong rows, the first of them i, and b wrong diagonals, the first of them d, find: (0,0) sound; (1,0) that H; (0,1) that U; (1,1) the data
-- element where the row and the diagonal meet; anything else, several
unfoldable pub found_of : Layout → ℕ → ℕ → ℕ → ℕ → Finding
found_of L a i b d =
    pick (eqb a 0) (pick (eqb b 0) finding.Sound (pick (eqb b 1) (finding.U d) finding.Several))
    (pick (eqb a 1) (pick (eqb b 0) (finding.H i) (pick (eqb b 1) (finding.Element i (L.meets i d)) finding.Several)) finding.Several)

-- what the wrong lines of the stripe s find
abbrev pub found : Layout → ℕ → List ℕ → Finding
found L e s =
    found_of L (count L.r (wrong_row L e s)) (first L.r (wrong_row L e s)) (count L.n (wrong_diagonal L e s)) (first L.n (wrong_diagonal L e s))

-- x has how many rows and how many diagonals of the stripe s are wrong, and what that finds
pub record Finds (L : Layout) (e : ℕ) (s : List ℕ) (x : Counts) : Type 0 where
  pub rows_are : x.rows ≡ count L.r (wrong_row L e s)
  pub diagonals_are : x.diagonals ≡ count L.n (wrong_diagonal L e s)
  pub finding_is : x.finding ≡ found L e s
