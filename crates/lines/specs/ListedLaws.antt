-- Laws of a line as the code lists it: a table is filled with where its elements start, one after the other. Assumes nothing.
-- h == the rows of a strip, r + 1    os == what is listed
use Rattle.std.specs.Prelude.{◌≡◌, List, ℕ, ◌+◌, ◌-◌, ◌*◌, ◌%◌, ◌≤◌, ◌<◌, length, get_or, set}
use Rattle.std.proofs.Math.Path.{refl, sym, ap}
use Rattle.std.proofs.Common.{◌∙◌, subst, add-mul, mul-le-mul, mod-lt, mod-eq_of_lt, zero-mul, le_refl, arith, length-set, get_or-set_same, get_or-set_other}
use Rattle.std.proofs.Math.Nat.{mod-add-mod, mod_self}
use Rattle.std.proofs.Math.Decide.{dec_lt}
use Rattle.code.specs.Circle.{step_cancel}
use Rattle.code.specs.Place.{place, before}
use Rattle.code.specs.Layout.{Layout, X, U, diagonal_line}
use Rattle.code.specs.LayoutLaws.{row_length, row_at, diagonal_length, diagonal_at, diagonal_end, line_row, line_diagonal}
use Rattle.code.specs.Shift.{meets}
use Rattle.lines.specs.Listed.{Listed}

-- ---- numbers

-- row i of strip j is one of the stripe's places, but for row r of strip n
pub place_stored : (n r i j : ℕ) → i ≤ r → j ≤ n → i + j < r + n → j * (r + 1) + i < n * (r + 1) + r
place_stored n r i j li lj l = go (dec_lt j n)
  where
    go : Dec (j < n) → j * (r + 1) + i < n * (r + 1) + r
    go (yes k) = omega (arith, before (r + 1) j n k)
    go (no k) = let z : j * (r + 1) ≡ n * (r + 1) = ap (λ (x : ℕ). x * (r + 1)) (omega arith) in omega arith

-- ---- one row down and one strip back

module _ (n r s i d : ℕ) (pn : 0 < n) (l : i + 1 < r) where
  -- a diagonal meets the next row one strip back, round the n of them
  meets_back : (x : ℕ) → x < n → (x + 1) % n ≡ meets n r s i d → x ≡ meets n r s (i + 1) d
  unfolding meets
  meets_back x lx b =
      let q : d + (r - 1 - i) + s ≡ d + (r - 1 - (i + 1)) + s + 1 = omega arith in
      step_cancel n 1 x ((d + (r - 1 - (i + 1)) + s) % n) lx (mod-lt (d + (r - 1 - (i + 1)) + s) pn)
      (b ∙ ap (λ (z : ℕ). z % n) q ∙ sym (mod-add-mod (d + (r - 1 - (i + 1)) + s) n 1))

  -- from strip j to strip j - 1
  meets_less : (j : ℕ) → j ≡ meets n r s i d → 0 < j → j < n → j - 1 ≡ meets n r s (i + 1) d
  meets_less j q p lj =
      let z : j - 1 + 1 ≡ j = omega arith in
      meets_back (j - 1) (omega arith) (ap (λ (x : ℕ). x % n) z ∙ mod-eq_of_lt lj ∙ q)

  -- from strip 0 to strip n - 1
  meets_round : 0 ≡ meets n r s i d → n - 1 ≡ meets n r s (i + 1) d
  meets_round q =
      let z : n - 1 + 1 ≡ n = omega arith in
      meets_back (n - 1) (omega arith) (ap (λ (x : ℕ). x % n) z ∙ mod_self n ∙ q)

module _ (r e i : ℕ) where
  -- row i of strip 0 starts sooner than the r-th element
  start_low : i < r → 0 < e → place (r + 1) i 0 * e < r * e
  start_low l pe =
      let q : place (r + 1) i 0 * e ≡ i * e = ap (λ (p : ℕ). p * e) (omega (arith, zero-mul (r + 1))) in
      omega (arith, before e i r l)

  -- row i of a later strip does not, and what starts r elements sooner is one row down and one strip back
  start_high : (j : ℕ) → 0 < j → r * e ≤ place (r + 1) i j * e
  start_high j p =
      let a : 1 * (r + 1) ≤ j * (r + 1) = mul-le-mul p (le_refl (r + 1)) in
      let b : r ≤ place (r + 1) i j = omega arith in
      mul-le-mul b (le_refl e)

  start_back : (j : ℕ) → 0 < j → place (r + 1) i j * e ≡ place (r + 1) (i + 1) (j - 1) * e + r * e
  start_back j p =
      let a : (j - 1 + 1) * (r + 1) ≡ (j - 1) * (r + 1) + 1 * (r + 1) = add-mul (j - 1) 1 (r + 1) in
      let b : (j - 1 + 1) * (r + 1) ≡ j * (r + 1) = ap (λ (x : ℕ). x * (r + 1)) (omega arith) in
      let q : place (r + 1) i j ≡ place (r + 1) (i + 1) (j - 1) + r = omega arith in
      ap (λ (x : ℕ). x * e) q ∙ add-mul (place (r + 1) (i + 1) (j - 1)) r e

  -- from row i of strip 0 to the next row of strip x
  start_round : (x : ℕ) → place (r + 1) i 0 * e + place (r + 1) 1 x * e ≡ place (r + 1) (i + 1) x * e
  start_round x =
      let q : place (r + 1) i 0 + place (r + 1) 1 x ≡ place (r + 1) (i + 1) x = omega (arith, zero-mul (r + 1)) in
      sym (add-mul (place (r + 1) i 0) (place (r + 1) 1 x) e) ∙ ap (λ (p : ℕ). p * e) q

-- where a diagonal's element of row i starts, and where that of the next row does
module _ (n r s e i d o : ℕ) (pn : 0 < n) (pe : 0 < e) (l : i + 1 < r) (q : o ≡ place (r + 1) i (meets n r s i d) * e) where
  pub next_back : r * e ≤ o → o - r * e ≡ place (r + 1) (i + 1) (meets n r s (i + 1) d) * e
  unfolding meets
  next_back h = go (dec_lt 0 (meets n r s i d))
    where
      go : Dec (0 < meets n r s i d) → o - r * e ≡ place (r + 1) (i + 1) (meets n r s (i + 1) d) * e
      go (yes p) =
          let a : o - r * e ≡ place (r + 1) (i + 1) (meets n r s i d - 1) * e = omega (arith, start_back r e i (meets n r s i d) p) in
          a ∙ ap (λ (x : ℕ). place (r + 1) (i + 1) x * e) (meets_less n r s i d pn l (meets n r s i d) refl p (mod-lt (d + (r - 1 - i) + s) pn))
      go (no p) =
          let z : meets n r s i d ≡ 0 = omega arith in
          let a : o ≡ place (r + 1) i 0 * e = q ∙ ap (λ (x : ℕ). place (r + 1) i x * e) z in
          absurd (omega (arith, start_low r e i (omega arith) pe))

  pub next_round : o < r * e → o + place (r + 1) 1 (n - 1) * e ≡ place (r + 1) (i + 1) (meets n r s (i + 1) d) * e
  next_round h = go (dec_lt 0 (meets n r s i d))
    where
      go : Dec (0 < meets n r s i d) → o + place (r + 1) 1 (n - 1) * e ≡ place (r + 1) (i + 1) (meets n r s (i + 1) d) * e
      go (yes p) = absurd (omega (arith, start_high r e i (meets n r s i d) p))
      go (no p) =
          let z : meets n r s i d ≡ 0 = omega arith in
          let a : o ≡ place (r + 1) i 0 * e = q ∙ ap (λ (x : ℕ). place (r + 1) i x * e) z in
          ap (λ (x : ℕ). x + place (r + 1) 1 (n - 1) * e) a
          ∙ start_round r e i (n - 1)
          ∙ ap (λ (x : ℕ). place (r + 1) (i + 1) x * e) (meets_round n r s i d pn l (sym z))

-- ---- a row

-- its n + 1 elements are listed, each where it starts
pub row_listed : (L : Layout) (e i : ℕ) (os : List ℕ) → i < L.r → length os ≡ 33 → ((v : ℕ) → v < L.n + 1 → get_or os v 0 ≡ X L i v * e)
    → Listed L e i os (L.n + 1)
row_listed L e i os li room h =
    record {
      room = room;
      count = sym (row_length L i) ∙ ap length (sym (line_row L i li));
      each = λ v lv. h v lv ∙ ap (λ (p : ℕ). p * e) (sym (row_at L i v (omega arith)) ∙ ap (λ (ps : List ℕ). get_or ps v 0) (sym (line_row L i li)));
    }

-- ---- a diagonal

-- its r data elements are listed, each where it starts, and its U is put after them
pub diagonal_listed : (L : Layout) (e d : ℕ) (os : List ℕ) (u : ℕ) → L.r ≤ 32 → length os ≡ 33
    → ((v : ℕ) → v < L.r → get_or os v 0 ≡ X L v (L.meets v d) * e) → u ≡ U L d * e → Listed L e (L.r + d) (set os L.r u) (L.r + 1)
diagonal_listed L e d os u lr room h w =
    record {
      room = length-set os L.r u ∙ room;
      count = sym (diagonal_length L d) ∙ ap length (sym (line_diagonal L d));
      each = λ v lv. go v lv (dec_lt v L.r) ∙ ap (λ (ps : List ℕ). get_or ps v 0 * e) (sym (line_diagonal L d));
    }
  where
    go : (v : ℕ) → v < L.r + 1 → Dec (v < L.r) → get_or (set os L.r u) v 0 ≡ get_or (diagonal_line L d) v 0 * e
    go v lv (yes l) =
        get_or-set_other os L.r v u 0 (λ z. omega arith)
        ∙ h v l
        ∙ ap (λ (p : ℕ). p * e) (sym (diagonal_at L d v l))
    go v lv (no l) =
        let last : v ≡ L.r = omega arith in
        ap (λ (x : ℕ). get_or (set os L.r u) x 0) last
        ∙ get_or-set_same os L.r u 0 (omega (arith, room))
        ∙ w
        ∙ ap (λ (p : ℕ). p * e) (sym (diagonal_end L d v last))

-- ---- the same line, said in another way

pub listed_at : (L : Layout) (e t u : ℕ) (os : List ℕ) (m : ℕ) → t ≡ u → Listed L e t os m → Listed L e u os m
listed_at L e t u os m q l = subst (λ (x : ℕ). Listed L e x os m) q l
