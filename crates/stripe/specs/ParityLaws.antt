-- Laws of a line's parity: it stands on that line alone, so setting it touches no other line. Assumes nothing.
use Rattle.std.specs.Prelude.{◌≡◌, ◌≢◌, ℕ, ◌+◌, ◌-◌, ◌≤◌, ◌<◌, List}
use Rattle.std.proofs.Common.{sym, ◌∙◌, subst, arith}
use Rattle.std.proofs.Math.Path.{ap}
use Rattle.std.proofs.Math.Decide.{dec_lt}
use Rattle.std.proofs.Math.ListN.{length, get_or}
use Rattle.code.specs.Place.{same_row, same_strip}
use Rattle.code.specs.Layout.{Layout, Fair, height, X, H, U, row_line, diagonal_line, line}
use Rattle.code.specs.LayoutLaws.{row_length, row_at, diagonal_length, diagonal_at, diagonal_end, line_row, line_diagonal, by_lines}
use Rattle.stripe.specs.Parity.{parity}

module _ (L : Layout) where
  -- ---- where it stands in its line

  -- last: after the n strips of a row, and after the r rows of a diagonal
  pub row_last : (i : ℕ) → i < L.r → L.n ≡ length (line L i) - 1
  row_last i li = omega (arith, ap length (line_row L i li), row_length L i)

  pub diagonal_last : (t : ℕ) → L.r ≤ t → L.r ≡ length (line L t) - 1
  diagonal_last t h =
      let q : L.r + (t - L.r) ≡ t = omega arith in
      omega (arith, ap (λ (u : ℕ). length (line L u)) (sym q), ap length (line_diagonal L (t - L.r)), diagonal_length L (t - L.r))

  -- so it is one of the line's places
  pub last_within : (t v : ℕ) → t < L.r + L.n → v ≡ length (line L t) - 1 → v < length (line L t)
  last_within t v lt = by_lines L (λ u ps. v ≡ length ps - 1 → v < length ps) (λ i li q. omega (arith, row_length L i)) (λ d ld q. omega (arith, diagonal_length L d)) t lt

  -- ---- the parity of a row, and of a diagonal

  pub parity_row : (i : ℕ) → i < L.r → parity L i ≡ H L i
  unfolding parity
  parity_row i li =
      let q : length (row_line L i) - 1 ≡ L.n = omega (arith, row_length L i) in
      ap (λ (ps : List ℕ). get_or ps (length ps - 1) 0) (line_row L i li) ∙ ap (λ (v : ℕ). get_or (row_line L i) v 0) q ∙ row_at L i L.n (omega arith)

  pub parity_diagonal : (d : ℕ) → parity L (L.r + d) ≡ U L d
  unfolding parity
  parity_diagonal d =
      ap (λ (ps : List ℕ). get_or ps (length ps - 1) 0) (line_diagonal L d) ∙ diagonal_end L d (length (diagonal_line L d) - 1) (omega (arith, diagonal_length L d))

  -- what holds of a row with H and of a diagonal with U holds of every line with its parity
  pub by_parities : (P : ℕ → ℕ → Type 0) → ((i : ℕ) → i < L.r → P i (H L i)) → ((d : ℕ) → d < L.n → P (L.r + d) (U L d))
      → (t : ℕ) → t < L.r + L.n → P t (parity L t)
  by_parities P rows diagonals =
      by_lines L (λ t ps. P t (parity L t)) (λ i li. subst (P i) (sym (parity_row i li)) (rows i li))
      (λ d ld. subst (P (L.r + d)) (sym (parity_diagonal d)) (diagonals d ld))

  -- ---- where it stands

  -- no data stands at a parity's place
  pub data_parity : (i j : ℕ) → i < L.r → j < L.n → (t : ℕ) → t < L.r + L.n → X L i j ≢ parity L t
  data_parity i j li lj =
      by_parities (λ t q. X L i j ≢ q)
      (λ m lm e. omega (arith, same_strip (height L) i j m L.n (omega arith) (omega arith) e))
      (λ d ld e. omega (arith, same_row (height L) i j L.r (L.home d) (omega arith) (omega arith) e))

  -- q is place v of line u only where u is line t and v is its last
  pub record Alone (t q : ℕ) : Type 0 where
    pub only : (u v : ℕ) → u < L.r + L.n → v < length (line L u) → get_or (line L u) v 0 ≡ q → (u ≡ t) × (v + 1 ≡ length (line L u))

  module _ (F : Fair L) where
    -- no other line has H of row i: rows share no place, and diagonals have none on strip n
    H_alone : (i : ℕ) → i < L.r → Alone i (H L i)
    H_alone i li =
        record {
          only = λ u v lu.
              by_lines L (λ w ps. v < length ps → get_or ps v 0 ≡ H L i → (w ≡ i) × (v + 1 ≡ length ps))
              (λ m lm lv e.
              let len = row_length L m in
              let q = sym (row_at L m v (omega arith)) ∙ e in
              (same_row (height L) m v i L.n (omega arith) (omega arith) q, omega (arith, same_strip (height L) m v i L.n (omega arith) (omega arith) q)))
              (λ d ld lv e. absurd (on_diagonal d v ld e (dec_lt v L.r) (omega (arith, diagonal_length L d)))) u lu;
        }
      where
        on_diagonal : (d v : ℕ) → d < L.n → get_or (diagonal_line L d) v 0 ≡ H L i → Dec (v < L.r) → v < L.r + 1 → ⊥
        on_diagonal d v ld e (yes l) h =
            omega (arith, F.meets_lt v d l ld, same_strip (height L) v (L.meets v d) i L.n (omega arith) (omega arith) (sym (diagonal_at L d v l) ∙ e))
        on_diagonal d v ld e (no l) h =
            omega (arith, same_row (height L) L.r (L.home d) i L.n (omega arith) (omega arith) (sym (diagonal_end L d v (omega arith)) ∙ e))

    -- no other line has U of diagonal d: data stands in other rows, and each U on its own strip
    U_alone : (d : ℕ) → d < L.n → Alone (L.r + d) (U L d)
    U_alone d ld =
        record {
          only = λ u v lu.
              by_lines L (λ w ps. v < length ps → get_or ps v 0 ≡ U L d → (w ≡ L.r + d) × (v + 1 ≡ length ps))
              (λ m lm lv e.
              let len = row_length L m in
              let q = sym (row_at L m v (omega arith)) ∙ e in
              absurd (omega (arith, same_row (height L) m v L.r (L.home d) (omega arith) (omega arith) q)))
              (λ c lc lv e. on_diagonal c v lc e (dec_lt v L.r) (omega (arith, diagonal_length L c)) (diagonal_length L c)) u lu;
        }
      where
        one_home : (c : ℕ) → c < L.n → L.home c ≡ L.home d → c ≡ d
        one_home c lc e = sym (F.owner_home c lc) ∙ ap L.owner e ∙ F.owner_home d ld

        on_diagonal : (c v : ℕ) → c < L.n → get_or (diagonal_line L c) v 0 ≡ U L d → Dec (v < L.r) → v < L.r + 1 → length (diagonal_line L c) ≡ L.r + 1
            → (L.r + c ≡ L.r + d) × (v + 1 ≡ length (diagonal_line L c))
        on_diagonal c v lc e (yes l) h len =
            absurd (omega (arith, same_row (height L) v (L.meets v c) L.r (L.home d) (omega arith) (omega arith) (sym (diagonal_at L c v l) ∙ e)))
        on_diagonal c v lc e (no l) h len = (
          ap (λ (x : ℕ). L.r + x)
              (one_home c lc
              (same_strip (height L) L.r (L.home c) L.r (L.home d) (omega arith) (omega arith) (sym (diagonal_end L c v (omega arith)) ∙ e))),
          omega arith,
        )

    -- each parity stands on one line only, and there last
    pub parity_alone : (t : ℕ) → t < L.r + L.n → Alone t (parity L t)
    parity_alone = by_parities Alone H_alone U_alone

    -- so on no other line
    pub other_line : (t u v : ℕ) → t < L.r + L.n → u < L.r + L.n → u ≢ t → v < length (line L u) → get_or (line L u) v 0 ≢ parity L t
    other_line t u v lt lu ne lv e = ne ((parity_alone t lt).only u v lu lv e).0
