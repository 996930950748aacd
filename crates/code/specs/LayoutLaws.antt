-- Laws of the HoVer layout: on which strip each place stands, which places each line has, and what a line sums to. Assumes nothing.
use Rattle.std.specs.Prelude.{ℕ, ◌+◌, ◌-◌, ◌*◌, ◌<◌, ◌≤◌, ◌≡◌, refl, ◌≢◌, ◌⊎◌, List, Bool, true, false, ltb, eqb, length, get_or}
use Rattle.std.proofs.Common.{sym, ◌∙◌, subst, inl, inr, mod-lt, div-add-mod', arith, lt-ltb, le-ltb, eq-eqb, ne_eqb}
use Rattle.std.proofs.Math.Path.{ap, ap₂}
use Rattle.std.proofs.Math.Decide.{ℕ_discrete, dec_lt}
use Rattle.code.specs.Xor.{◌⊕◌}
use Rattle.code.specs.Sum.{sum, sum_to, pick}
use Rattle.code.specs.SumLaws.{sum_to_more, sum_to_ext, length_table, get_or_table, sum_table, clash}
use Rattle.code.specs.Code.{Within}
use Rattle.code.specs.Place.{place, strip_of, row_of, place_strip, place_below, before}
use Rattle.code.specs.Layout.{Layout, Fair, height, X, H, U, places, row_line, diagonal_line, line, code, pair}

-- ---- pairs of strips

pub pair_left : (a b : ℕ) → pair a b a ≡ true
pair_left a b = ap (λ (t : Bool). pick t true (eqb a b)) (eq-eqb a a refl)

pub pair_right : (a b : ℕ) → pair a b b ≡ true
pair_right a b = go (eqb b a)
  where
    go : (t : Bool) → pick t true (eqb b b) ≡ true
    go true = refl
    go false = eq-eqb b b refl

pub pair_no : (a b j : ℕ) → j ≢ a → j ≢ b → pair a b j ≡ false
pair_no a b j na nb = ap (λ (t : Bool). pick t true (eqb j b)) (ne_eqb j a na) ∙ ne_eqb j b nb

pub pair_yes : (a b j : ℕ) → pair a b j ≡ true → (j ≡ a) ⊎ (j ≡ b)
pair_yes a b j e = go (ℕ_discrete j a) (ℕ_discrete j b)
  where
    go : Dec (j ≡ a) → Dec (j ≡ b) → (j ≡ a) ⊎ (j ≡ b)
    go (yes p) q = inl p
    go (no p) (yes q) = inr q
    go (no p) (no q) = clash (sym (pair_no a b j p q) ∙ e)

pub pair_kept : (a b j : ℕ) → pair a b j ≡ false → (j ≢ a) × (j ≢ b)
pair_kept a b j e = (
  λ p. clash (sym e ∙ ap (pair a b) p ∙ pair_left a b),
  λ p. clash (sym e ∙ ap (pair a b) p ∙ pair_right a b),
)

module _ (L : Layout) where
  -- ---- strips

  pub X_strip : (i j : ℕ) → i < L.r → strip_of (height L) (X L i j) ≡ j
  X_strip i j l = place_strip (height L) i j (omega arith)

  pub H_strip : (i : ℕ) → i < L.r → strip_of (height L) (H L i) ≡ L.n
  H_strip i l = place_strip (height L) i L.n (omega arith)

  pub U_strip : (d : ℕ) → strip_of (height L) (U L d) ≡ L.home d
  U_strip d = place_strip (height L) L.r (L.home d) (omega arith)

  -- ---- lines

  pub row_length : (i : ℕ) → length (row_line L i) ≡ L.n + 1
  unfolding row_line
  row_length i = length_table (L.n + 1) (λ j. X L i j)

  -- strip n stands last: X i n is H i
  pub row_at : (i v : ℕ) → v ≤ L.n → get_or (row_line L i) v 0 ≡ X L i v
  unfolding row_line
  row_at i v l = get_or_table (L.n + 1) (λ j. X L i j) 0 v (omega arith)

  pub diagonal_length : (d : ℕ) → length (diagonal_line L d) ≡ L.r + 1
  unfolding diagonal_line
  diagonal_length d = length_table (L.r + 1) (λ i. pick (ltb i L.r) (X L i (L.meets i d)) (U L d))

  pub diagonal_at : (d v : ℕ) → v < L.r → get_or (diagonal_line L d) v 0 ≡ X L v (L.meets v d)
  unfolding diagonal_line
  diagonal_at d v l =
      get_or_table (L.r + 1) (λ i. pick (ltb i L.r) (X L i (L.meets i d)) (U L d)) 0 v (omega arith)
      ∙ ap (λ (t : Bool). pick t (X L v (L.meets v d)) (U L d)) (lt-ltb v L.r l)

  pub diagonal_end : (d v : ℕ) → v ≡ L.r → get_or (diagonal_line L d) v 0 ≡ U L d
  unfolding diagonal_line
  diagonal_end d v e =
      get_or_table (L.r + 1) (λ i. pick (ltb i L.r) (X L i (L.meets i d)) (U L d)) 0 v (omega arith)
      ∙ ap (λ (t : Bool). pick t (X L v (L.meets v d)) (U L d)) (le-ltb v L.r (omega arith))

  pub line_row : (t : ℕ) → t < L.r → line L t ≡ row_line L t
  unfolding line
  line_row t l = ap (λ (b : Bool). pick b (row_line L t) (diagonal_line L (t - L.r))) (lt-ltb t L.r l)

  pub line_diagonal : (d : ℕ) → line L (L.r + d) ≡ diagonal_line L d
  unfolding line
  line_diagonal d =
      ap (λ (b : Bool). pick b (row_line L (L.r + d)) (diagonal_line L (L.r + d - L.r))) (le-ltb (L.r + d) L.r (omega arith))
      ∙ ap (diagonal_line L) (omega arith)

  -- a line is a row or a diagonal
  pub by_lines : (P : ℕ → List ℕ → Type 0) → ((i : ℕ) → i < L.r → P i (row_line L i)) → ((d : ℕ) → d < L.n → P (L.r + d) (diagonal_line L d))
      → (t : ℕ) → t < L.r + L.n → P t (line L t)
  by_lines P rows diagonals t lt = go (dec_lt t L.r)
    where
      back : (t < L.r → ⊥) → L.r + (t - L.r) ≡ t
      back g = omega arith

      go : Dec (t < L.r) → P t (line L t)
      go (yes l) = subst (P t) (sym (line_row t l)) (rows t l)
      go (no l) =
          subst (λ (u : ℕ). P u (line L u)) (back l) (subst (P (L.r + (t - L.r))) (sym (line_diagonal (t - L.r))) (diagonals (t - L.r) (omega arith)))

  -- ---- sums

  pub row_sum : (f : ℕ → ℕ) (i : ℕ) → sum f (row_line L i) ≡ sum_to L.n (λ j. f (X L i j)) ⊕ f (H L i)
  unfolding row_line
  row_sum f i = sum_table f (λ j. X L i j) (L.n + 1) ∙ sum_to_more L.n (λ j. f (X L i j))

  pub diagonal_sum : (f : ℕ → ℕ) (d : ℕ) → sum f (diagonal_line L d) ≡ sum_to L.r (λ i. f (X L i (L.meets i d))) ⊕ f (U L d)
  unfolding diagonal_line
  diagonal_sum f d =
      sum_table f (λ i. pick (ltb i L.r) (X L i (L.meets i d)) (U L d)) (L.r + 1)
      ∙ sum_to_more L.r (λ i. f (pick (ltb i L.r) (X L i (L.meets i d)) (U L d)))
      ∙ ap₂ ◌⊕◌
      (sum_to_ext L.r (λ i. f (pick (ltb i L.r) (X L i (L.meets i d)) (U L d))) (λ i. f (X L i (L.meets i d)))
      (λ i l. ap (λ (t : Bool). f (pick t (X L i (L.meets i d)) (U L d))) (lt-ltb i L.r l)))
      (ap (λ (t : Bool). f (pick t (X L L.r (L.meets L.r d)) (U L d))) (le-ltb L.r L.r (omega arith)))

  -- ---- places

  pub X_below : (i j : ℕ) → i < L.r → j < L.n → X L i j < places L
  X_below i j li lj = omega (arith, place_below (height L) L.n i j (omega arith) lj)

  pub H_below : (i : ℕ) → i < L.r → H L i < places L
  H_below i l = omega arith

  pub U_below : Fair L → (d : ℕ) → d < L.n → U L d < places L
  U_below F d l = omega (arith, place_below (height L) L.n L.r (L.home d) (omega arith) (F.home_lt d l))

  -- the lines speak of the stripe's places only
  pub layout_within : Fair L → Within (code L)
  layout_within F = record { below = λ t v lt lv. by_lines (λ u ps. v < length ps → get_or ps v 0 < places L) rows diagonals t lt lv }
    where
      in_row : (i v : ℕ) → i < L.r → v < L.n + 1 → Dec (v < L.n) → X L i v < places L
      in_row i v li lv (yes l) = X_below i v li l
      in_row i v li lv (no l) = subst (λ (j : ℕ). X L i j < places L) (omega arith) (H_below i li)

      rows : {v : ℕ} (i : ℕ) → i < L.r → v < length (row_line L i) → get_or (row_line L i) v 0 < places L
      rows {v} i li lv =
          let l : v < L.n + 1 = omega (arith, row_length i) in
          subst (λ (p : ℕ). p < places L) (sym (row_at i v (omega arith))) (in_row i v li l (dec_lt v L.n))

      on_diagonal : (d v : ℕ) → d < L.n → v < L.r + 1 → Dec (v < L.r) → get_or (diagonal_line L d) v 0 < places L
      on_diagonal d v ld lv (yes l) = subst (λ (p : ℕ). p < places L) (sym (diagonal_at d v l)) (X_below v (L.meets v d) l (F.meets_lt v d l ld))
      on_diagonal d v ld lv (no l) = subst (λ (p : ℕ). p < places L) (sym (diagonal_end d v (omega arith))) (U_below F d ld)

      diagonals : {v : ℕ} (d : ℕ) → d < L.n → v < length (diagonal_line L d) → get_or (diagonal_line L d) v 0 < places L
      diagonals {v} d ld lv = let l : v < L.r + 1 = omega (arith, diagonal_length d) in on_diagonal d v ld l (dec_lt v L.r)

-- a place is an X, an H or a U
pub by_places : (L : Layout) → Fair L → (P : ℕ → Type 0) → ((i j : ℕ) → i < L.r → j < L.n → P (X L i j)) → ((i : ℕ) → i < L.r → P (H L i))
    → ((d : ℕ) → d < L.n → P (U L d)) → (p : ℕ) → p < places L → P p
by_places L F P at_X at_H at_U p lp =
    subst P (div-add-mod' p (height L)) (go (strip_of (height L) p) (row_of (height L) p) (mod-lt p (omega arith)) (omega (arith, div-add-mod' p (height L))))
  where
    on_data : (j i : ℕ) → i < height L → j < L.n → Dec (i < L.r) → P (place (height L) i j)
    on_data j i li lj (yes h) = at_X i j h lj
    on_data j i li lj (no h) =
        subst (λ (k : ℕ). P (place (height L) k j)) (omega arith)
        (subst (λ (k : ℕ). P (place (height L) L.r k)) (F.home_owner j lj) (at_U (L.owner j) (F.owner_lt j lj)))

    go : (j i : ℕ) → i < height L → place (height L) i j < places L → P (place (height L) i j)
    go j i li l = at_strip (dec_lt j L.n) (dec_lt L.n j)
      where
        at_strip : Dec (j < L.n) → Dec (L.n < j) → P (place (height L) i j)
        at_strip (yes lj) q = on_data j i li lj (dec_lt i L.r)
        at_strip (no nj) (yes lj) = absurd (omega (arith, before (height L) L.n j lj))
        at_strip (no nj) (no mj) = same (omega arith)
          where
            same : j ≡ L.n → P (place (height L) i j)
            same e =
                let z : j * height L ≡ L.n * height L = ap (λ (k : ℕ). k * height L) e in
                subst (λ (k : ℕ). P (place (height L) i k)) (sym e) (at_H i (omega arith))
