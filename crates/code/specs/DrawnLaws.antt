-- The layout that a map draws is as fair, as latin and the same code as the layout that the map was filled from. Assumes nothing.
use Rattle.std.specs.Prelude.{ℕ, zero, suc, ◌+◌, ◌<◌, ◌≡◌, Bool, true, false, List, ltb, get_or}
use Rattle.std.proofs.Math.Path.{refl, sym, ap, ap₂}
use Rattle.std.proofs.Common.{◌∙◌, subst, not-suc-le-zero, arith, eq-eqb, eqb-true, le-ltb}
use Rattle.std.proofs.Math.Decide.{dec_lt}
use Rattle.std.proofs.Math.Dec.{eqb}
use Rattle.code.specs.Sum.{pick}
use Rattle.code.specs.SumLaws.{table_ext, clash}
use Rattle.code.specs.Alike.{Alike}
use Rattle.code.specs.Layout.{Layout, Fair, Latin, X, U, row_line, diagonal_line, line, code}
use Rattle.code.specs.LayoutLaws.{by_lines, line_row, line_diagonal}
use Rattle.code.specs.Below.{first}
use Rattle.code.specs.Drawn.{cell, drawn, Draws}

pub record FirstIs (n : ℕ) (t : ℕ → Bool) (x : ℕ) : Type 0 where
  pub below : x < n
  pub holds : t x ≡ true

-- where the test holds somewhere, it holds at the first
pub first_is : (n : ℕ) (t : ℕ → Bool) (j : ℕ) → j < n → t j ≡ true → FirstIs n t (first n t)
unfolding first
first_is zero t j l e = absurd (not-suc-le-zero l)
first_is (suc n) t j l e = go (t 0) refl j l e (λ i li. first_is n (λ v. t (suc v)) i li)
  where
    up : FirstIs n (λ v. t (suc v)) (first n (λ v. t (suc v))) → FirstIs (suc n) t (suc (first n (λ v. t (suc v))))
    up x = record { below = omega (arith, x.below); holds = x.holds }

    go : (b : Bool) → t 0 ≡ b → (j : ℕ) → j < suc n → t j ≡ true
        → ((i : ℕ) → i < n → t (suc i) ≡ true → FirstIs n (λ v. t (suc v)) (first n (λ v. t (suc v))))
        → FirstIs (suc n) t (pick b 0 (suc (first n (λ v. t (suc v)))))
    go true q j l e h = record { below = omega arith; holds = q }
    go false q zero l e h = clash (sym q ∙ e)
    go false q (suc j) l e h = up (h j (omega arith) e)

module _ (m : List (List ℕ)) (h : List ℕ) (L : Layout) (F : Fair L) (x : Draws m h L) where
  pub drawn_meets : (i d : ℕ) → i < L.r → d < L.n → (drawn m h L.n L.r).meets i d ≡ L.meets i d
  drawn_meets i d li ld = go (first_is L.n (λ j. eqb (cell m i j) d) (L.meets i d) (F.meets_lt i d li ld) hit)
    where
      hit : eqb (cell m i (L.meets i d)) d ≡ true
      hit = eq-eqb (cell m i (L.meets i d)) d (x.diagonals i (L.meets i d) li (F.meets_lt i d li ld) ∙ F.diagonal_meets i d li ld)

      go : FirstIs L.n (λ j. eqb (cell m i j) d) (first L.n (λ j. eqb (cell m i j) d)) → first L.n (λ j. eqb (cell m i j) d) ≡ L.meets i d
      go y =
          sym (F.meets_diagonal i (first L.n (λ j. eqb (cell m i j) d)) li y.below)
          ∙ ap (L.meets i) (sym (x.diagonals i (first L.n (λ j. eqb (cell m i j) d)) li y.below) ∙ eqb-true (cell m i (first L.n (λ j. eqb (cell m i j) d))) d y.holds)

  pub drawn_owner : (j : ℕ) → j < L.n → (drawn m h L.n L.r).owner j ≡ L.owner j
  drawn_owner j lj = go (first_is L.n (λ d. eqb (get_or h d 0) j) (L.owner j) (F.owner_lt j lj) hit)
    where
      hit : eqb (get_or h (L.owner j) 0) j ≡ true
      hit = eq-eqb (get_or h (L.owner j) 0) j (x.homes (L.owner j) (F.owner_lt j lj) ∙ F.home_owner j lj)

      go : FirstIs L.n (λ d. eqb (get_or h d 0) j) (first L.n (λ d. eqb (get_or h d 0) j)) → first L.n (λ d. eqb (get_or h d 0) j) ≡ L.owner j
      go y =
          sym (F.owner_home (first L.n (λ d. eqb (get_or h d 0) j)) y.below)
          ∙ ap L.owner (sym (x.homes (first L.n (λ d. eqb (get_or h d 0) j)) y.below) ∙ eqb-true (get_or h (first L.n (λ d. eqb (get_or h d 0) j)) 0) j y.holds)

  pub drawn_fair : Fair (drawn m h L.n L.r)
  drawn_fair =
      record {
        diagonal_lt = λ i j li lj. subst (λ (v : ℕ). v < L.n) (sym (x.diagonals i j li lj)) (F.diagonal_lt i j li lj);
        meets_lt = λ i d li ld. subst (λ (v : ℕ). v < L.n) (sym (drawn_meets i d li ld)) (F.meets_lt i d li ld);
        meets_diagonal = λ i j li lj.
            drawn_meets i (cell m i j) li (subst (λ (v : ℕ). v < L.n) (sym (x.diagonals i j li lj)) (F.diagonal_lt i j li lj))
            ∙ ap (L.meets i) (x.diagonals i j li lj) ∙ F.meets_diagonal i j li lj;
        diagonal_meets = λ i d li ld. ap (cell m i) (drawn_meets i d li ld) ∙ x.diagonals i (L.meets i d) li (F.meets_lt i d li ld) ∙ F.diagonal_meets i d li ld;
        home_lt = λ d ld. subst (λ (v : ℕ). v < L.n) (sym (x.homes d ld)) (F.home_lt d ld);
        owner_lt = λ j lj. subst (λ (v : ℕ). v < L.n) (sym (drawn_owner j lj)) (F.owner_lt j lj);
        home_owner = λ j lj. ap (λ (d : ℕ). get_or h d 0) (drawn_owner j lj) ∙ x.homes (L.owner j) (F.owner_lt j lj) ∙ F.home_owner j lj;
        owner_home = λ d ld.
            drawn_owner (get_or h d 0) (subst (λ (v : ℕ). v < L.n) (sym (x.homes d ld)) (F.home_lt d ld))
            ∙ ap L.owner (x.homes d ld) ∙ F.owner_home d ld;
      }

  pub drawn_latin : Latin L → Latin (drawn m h L.n L.r)
  drawn_latin l = record { down = λ i k j li lk lj e. l.down i k j li lk lj (sym (x.diagonals i j li lj) ∙ e ∙ x.diagonals k j lk lj) }

  row_same : (i : ℕ) → row_line (drawn m h L.n L.r) i ≡ row_line L i
  unfolding row_line
  row_same i = refl

  diagonal_same : (d : ℕ) → d < L.n → diagonal_line (drawn m h L.n L.r) d ≡ diagonal_line L d
  unfolding diagonal_line
  diagonal_same d ld = table_ext (L.r + 1) _ _ (λ i li. at i (dec_lt i L.r))
    where
      at : (i : ℕ) → Dec (i < L.r)
          → pick (ltb i L.r) (X L i (first L.n (λ j. eqb (cell m i j) d))) (X L L.r (get_or h d 0))
          ≡ pick (ltb i L.r) (X L i (L.meets i d)) (U L d)
      at i (yes l) = ap₂ (λ (j k : ℕ). pick (ltb i L.r) (X L i j) (X L L.r k)) (drawn_meets i d l ld) (x.homes d ld)
      at i (no l) =
          ap (λ (t : Bool). pick t (X L i (first L.n (λ j. eqb (cell m i j) d))) (X L L.r (get_or h d 0))) (le-ltb i L.r (omega arith))
          ∙ ap (X L L.r) (x.homes d ld)
          ∙ sym (ap (λ (t : Bool). pick t (X L i (L.meets i d)) (U L d)) (le-ltb i L.r (omega arith)))

  pub drawn_alike : Alike (code (drawn m h L.n L.r)) (code L)
  drawn_alike = record { places = refl; lines = refl; line = by_lines (drawn m h L.n L.r) (λ t ps. ps ≡ line L t) rows diagonals; strip = λ p. refl }
    where
      rows : (i : ℕ) → i < L.r → row_line (drawn m h L.n L.r) i ≡ line L i
      rows i li = row_same i ∙ sym (line_row L i li)

      diagonals : (d : ℕ) → d < L.n → diagonal_line (drawn m h L.n L.r) d ≡ line L (L.r + d)
      diagonals d ld = diagonal_same d ld ∙ sym (line_diagonal L d)
