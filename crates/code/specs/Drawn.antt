-- The layout that a map draws: m is the map of diagonals, rows by strips, and h the strip that stores each diagonal's parity. Assumes nothing.
-- cell m i j == what stands at row i and strip j of the map
use Rattle.std.specs.Prelude.{ℕ, ◌<◌, ◌≡◌, List, [], eqb, get_or}
use Rattle.code.specs.Below.{first}
use Rattle.code.specs.Layout.{Layout}

abbrev pub cell : List (List ℕ) → ℕ → ℕ → ℕ
cell m i j = get_or (get_or m i []) j 0

abbrev pub drawn : List (List ℕ) → List ℕ → ℕ → ℕ → Layout
drawn m h n r =
    record {
      n = n;
      r = r;
      diagonal = cell m;
      meets = λ i d. first n (λ j. eqb (cell m i j) d);
      home = λ d. get_or h d 0;
      owner = λ j. first n (λ d. eqb (get_or h d 0) j);
    }

-- the map draws the layout: every diagonal and every home stands in it
pub record Draws (m : List (List ℕ)) (h : List ℕ) (L : Layout) : Type 0 where
  pub diagonals : (i j : ℕ) → i < L.r → j < L.n → cell m i j ≡ L.diagonal i j
  pub homes : (d : ℕ) → d < L.n → get_or h d 0 ≡ L.home d
