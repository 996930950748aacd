-- On which lines a place stands: X on its row and on its diagonal, H on its row, U on its diagonal, each once; and what a line's sum becomes
-- where one place changes. Over any fair layout. Assumes nothing.
-- ps == the places of a line    p == a place    u, v == indices in the line
use Rattle.std.specs.Prelude.{◌≡◌, refl, ◌≢◌, List, ℕ, ◌≤◌, ◌<◌, length, get_or}
use Rattle.std.proofs.Common.{sym, ap, ◌∙◌, arith}
use Rattle.std.proofs.Math.Decide.{dec_lt}
use Rattle.code.specs.Xor.{◌⊕◌, ⊕_assoc, ⊕_self, zero_⊕}
use Rattle.code.specs.Sum.{sum}
use Rattle.code.specs.SumLaws.{sum_to_change, sum_index, sum_ext}
use Rattle.code.specs.Place.{place_strip, place_row, strip_of, row_of, same_row, same_strip}
use Rattle.code.specs.Layout.{Layout, Fair, height, X, H, U, row_line, diagonal_line}
use Rattle.code.specs.LayoutLaws.{row_length, row_at, diagonal_length, diagonal_at, diagonal_end}

-- p stands on the line once, at v
pub record Once (ps : List ℕ) (p v : ℕ) : Type 0 where
  pub within : v < length ps
  pub here : get_or ps v 0 ≡ p
  pub alone : (u : ℕ) → u < length ps → u ≢ v → get_or ps u 0 ≢ p

-- p does not stand on the line
pub record Off (ps : List ℕ) (p : ℕ) : Type 0 where
  pub nowhere : (u : ℕ) → u < length ps → get_or ps u 0 ≢ p

-- of the m lines p stands on line i, once, and on no other
pub record OnOne (m : ℕ) (lines : ℕ → List ℕ) (p i : ℕ) : Type 0 where
  pub below : i < m
  pub index : ℕ
  pub once : Once (lines i) p index
  pub off : (j : ℕ) → j < m → j ≢ i → Off (lines j) p

-- p stands on none of the m lines
pub record OnNone (m : ℕ) (lines : ℕ → List ℕ) (p : ℕ) : Type 0 where
  pub off : (j : ℕ) → j < m → Off (lines j) p

-- ---- a line whose places tell their index

module _ (ps : List ℕ) (key : ℕ → ℕ) (keyed : (u : ℕ) → u < length ps → key (get_or ps u 0) ≡ u) (p : ℕ) where
  keyed_once : (v : ℕ) → v < length ps → get_or ps v 0 ≡ p → Once ps p v
  keyed_once v l e =
      record { within = l; here = e; alone = λ u lu ne q. ne (sym (keyed u lu) ∙ ap key (q ∙ sym e) ∙ keyed v l) }

  keyed_off : (v : ℕ) → key p ≡ v → get_or ps v 0 ≢ p → Off ps p
  keyed_off v e ne = record { nowhere = λ u lu q. ne (ap (λ (x : ℕ). get_or ps x 0) (sym e ∙ sym (ap key q) ∙ keyed u lu) ∙ q) }

module _ (L : Layout) where
  -- ---- rows: a place tells its index by its strip

  row_keyed : (m : ℕ) → m < L.r → (u : ℕ) → u < length (row_line L m) → strip_of (height L) (get_or (row_line L m) u 0) ≡ u
  row_keyed m lm u lu =
      ap (strip_of (height L)) (row_at L m u (omega (arith, row_length L m))) ∙ place_strip (height L) m u (omega arith)

  -- X and H, which is X of strip n
  row_once : (i j : ℕ) → i < L.r → j ≤ L.n → Once (row_line L i) (X L i j) j
  row_once i j li lj =
      keyed_once (row_line L i) (strip_of (height L)) (row_keyed i li) (X L i j) j (omega (arith, row_length L i)) (row_at L i j lj)

  -- what stands in another row, also U, which stands in row r
  row_off : (m i j : ℕ) → m < L.r → i ≤ L.r → m ≢ i → Off (row_line L m) (X L i j)
  row_off m i j lm li ne =
      record {
        nowhere = λ u lu q. ne (same_row (height L) m u i j (omega arith) (omega arith) (sym (row_at L m u (omega (arith, row_length L m))) ∙ q));
      }

  -- ---- diagonals: a place tells its index by its row

  diagonal_keyed : (d : ℕ) (u : ℕ) → u < length (diagonal_line L d) → row_of (height L) (get_or (diagonal_line L d) u 0) ≡ u
  diagonal_keyed d u lu = go (dec_lt u L.r)
    where
      go : Dec (u < L.r) → row_of (height L) (get_or (diagonal_line L d) u 0) ≡ u
      go (yes l) = ap (row_of (height L)) (diagonal_at L d u l) ∙ place_row (height L) u (L.meets u d) (omega arith)
      go (no l) =
          let e : u ≡ L.r = omega (arith, diagonal_length L d) in
          ap (row_of (height L)) (diagonal_end L d u e) ∙ place_row (height L) L.r (L.home d) (omega arith) ∙ sym e

  on_diagonal : (d v p : ℕ) → v ≤ L.r → get_or (diagonal_line L d) v 0 ≡ p → Once (diagonal_line L d) p v
  on_diagonal d v p l e = keyed_once (diagonal_line L d) (row_of (height L)) (diagonal_keyed d) p v (omega (arith, diagonal_length L d)) e

  off_diagonal : (d i j : ℕ) → i ≤ L.r → get_or (diagonal_line L d) i 0 ≢ X L i j → Off (diagonal_line L d) (X L i j)
  off_diagonal d i j l ne =
      keyed_off (diagonal_line L d) (row_of (height L)) (diagonal_keyed d) (X L i j) i (place_row (height L) i j (omega arith)) ne

  -- data of row i and the H of row i, where the diagonal meets the row at another strip
  row_elsewhere : (d i j : ℕ) → i < L.r → L.meets i d ≢ j → Off (diagonal_line L d) (X L i j)
  row_elsewhere d i j li ne =
      off_diagonal d i j (omega arith)
      (λ q. ne (same_strip (height L) i (L.meets i d) i j (omega arith) (omega arith) (sym (diagonal_at L d i li) ∙ q)))

  -- ---- the lines of each place

  pub X_row : (i j : ℕ) → i < L.r → j ≤ L.n → OnOne L.r (row_line L) (X L i j) i
  X_row i j li lj = record { below = li; index = j; once = row_once i j li lj; off = λ m lm ne. row_off m i j lm (omega arith) ne }

  pub X_diagonal : Fair L → (i j : ℕ) → i < L.r → j < L.n → OnOne L.n (diagonal_line L) (X L i j) (L.diagonal i j)
  X_diagonal F i j li lj =
      record {
        below = F.diagonal_lt i j li lj;
        index = i;
        once = on_diagonal (L.diagonal i j) i (X L i j) (omega arith) (diagonal_at L (L.diagonal i j) i li ∙ ap (X L i) (F.meets_diagonal i j li lj));
        off = λ d ld ne. row_elsewhere d i j li (λ q. ne (sym (F.diagonal_meets i d li ld) ∙ ap (L.diagonal i) q));
      }

  pub H_row : (i : ℕ) → i < L.r → OnOne L.r (row_line L) (H L i) i
  H_row i li = X_row i L.n li (omega arith)

  pub H_diagonal : Fair L → (i : ℕ) → i < L.r → OnNone L.n (diagonal_line L) (H L i)
  H_diagonal F i li = record { off = λ d ld. row_elsewhere d i L.n li (λ q. omega (arith, F.meets_lt i d li ld)) }

  pub U_row : (d : ℕ) → OnNone L.r (row_line L) (U L d)
  U_row d = record { off = λ m lm. row_off m L.r (L.home d) lm (omega arith) (λ q. omega arith) }

  pub U_diagonal : Fair L → (d : ℕ) → d < L.n → OnOne L.n (diagonal_line L) (U L d) d
  U_diagonal F d ld =
      record {
        below = ld;
        index = L.r;
        once = on_diagonal d L.r (U L d) (omega arith) (diagonal_end L d L.r refl);
        off = λ c lc ne. off_diagonal c L.r (L.home d) (omega arith) (λ q. ne (other c lc (sym (diagonal_end L c L.r refl) ∙ q)));
      }
    where
      other : (c : ℕ) → c < L.n → U L c ≡ U L d → c ≡ d
      other c lc q =
          sym (F.owner_home c lc)
          ∙ ap L.owner (same_strip (height L) L.r (L.home c) L.r (L.home d) (omega arith) (omega arith) q)
          ∙ F.owner_home d ld

-- ---- the sum of a line where the place p changes

module _ (f g : ℕ → ℕ) (ps : List ℕ) (p : ℕ) (others : (u : ℕ) → u < length ps → get_or ps u 0 ≢ p → g (get_or ps u 0) ≡ f (get_or ps u 0)) where
  -- with p on the line, by what p changed
  pub once_sum : (v : ℕ) → Once ps p v → sum g ps ≡ sum f ps ⊕ (f p ⊕ g p)
  once_sum v o =
      sum_index g ps
      ∙ sum_to_change (length ps) (λ u. f (get_or ps u 0)) (λ u. g (get_or ps u 0)) (f p ⊕ g p) v o.within here (λ u lu ne. others u lu (o.alone u lu ne))
      ∙ ap (λ (x : ℕ). x ⊕ (f p ⊕ g p)) (sym (sum_index f ps))
    where
      here : g (get_or ps v 0) ≡ f (get_or ps v 0) ⊕ (f p ⊕ g p)
      here =
          ap g o.here
          ∙ sym (sym (⊕_assoc (f p) (f p) (g p)) ∙ ap (λ (x : ℕ). x ⊕ g p) (⊕_self (f p)) ∙ zero_⊕ (g p))
          ∙ ap (λ (q : ℕ). f q ⊕ (f p ⊕ g p)) (sym o.here)

  -- with p off the line, not at all
  pub off_sum : Off ps p → sum g ps ≡ sum f ps
  off_sum o = sum_ext g f ps (λ u lu. others u lu (o.nowhere u lu))
