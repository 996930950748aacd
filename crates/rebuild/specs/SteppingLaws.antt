-- Laws of a step: which line it uses, and at which place of it the target stands, for each kind. Assumes nothing.
use Rattle.std.specs.Prelude.{ℕ, ◌+◌, ◌≤◌, ◌<◌, ◌≡◌, ◌≢◌, Bool, List, length, get_or}
use Rattle.std.proofs.Common.{sym, ap, ◌∙◌, subst, arith}
use Rattle.code.specs.Place.{at}
use Rattle.code.specs.Layout.{Layout, Fair, X, line, diagonal_line}
use Rattle.code.specs.LayoutLaws.{row_length, row_at, diagonal_length, diagonal_at, diagonal_end, line_row, line_diagonal}
use Rattle.code.specs.Run.{Ran}
use Rattle.code.specs.Steps.{Written, line_of, BuiltAt, RightStep, by_row, by_diagonal, of_row, of_strip}
use Rattle.code.specs.Walk.{Walk}
use Rattle.code.specs.StepsLaws.{line_else, line_own, line_cross}
use Rattle.lines.specs.Others.{Builds}
use Rattle.rebuild.specs.Stepping.{Shaped, data_row, data_diagonal, h_row, v_diagonal, Stepped}

-- a right step is one of them
right_shaped : (L : Layout) (lost : ℕ → Bool) (B : ℕ → ℕ → Type 0) (x : Written) → RightStep L lost B x → Shaped L.n L.r x
right_shaped L lost B x (by_row e y) = data_row e y.row_below y.strip_below
right_shaped L lost B x (by_diagonal e y) = data_diagonal e y.row_below y.strip_below
right_shaped L lost B x (of_row e li ej lo new all) = h_row e li ej
right_shaped L lost B x (of_strip e ei lj lo new all) = v_diagonal e ei lj

-- so are the steps of a walk
pub walk_shaped : (L : Layout) (lost : ℕ → Bool) (w : ℕ → Written) (k : ℕ) (whole : Bool) → Walk L lost w k whole → (u : ℕ) → u < k → Shaped L.n L.r (w u)
walk_shaped L lost w k whole y u lu = right_shaped L lost (BuiltAt w u) (w u) (y.right.right u lu)

-- what a step of each kind has to build: place v of line t, which is its line and has its target there
pub record Where (L : Layout) (x : Written) (t v : ℕ) : Type 0 where
  pub its_line : t ≡ line_of L x
  pub below : t < L.r + L.n
  pub within : v < length (line L t)
  pub on : get_or (line L t) v 0 ≡ X L x.row x.strip

-- by equal numbers
pub where_at : {L : Layout} {x : Written} {t v u w : ℕ} → u ≡ t → w ≡ v → Where L x t v → Where L x u w
where_at {L} {x} {t} {v} {u} {w} p q y = subst (λ (a : ℕ). Where L x a w) (sym p) (subst (λ (b : ℕ). Where L x t b) (sym q) y)

module _ (L : Layout) (F : Fair L) (x : Written) where
  -- the place of strip v on row t
  row_where : x.kind ≢ 2 → x.kind ≢ 4 → x.row < L.r → x.strip ≤ L.n → Where L x x.row x.strip
  row_where n2 n4 li lj =
      record {
        its_line = sym (line_else L x n2 n4);
        below = omega arith;
        within = subst (λ (ps : List ℕ). x.strip < length ps) (sym (line_row L x.row li)) (omega (arith, row_length L x.row));
        on = ap (λ (ps : List ℕ). get_or ps x.strip 0) (line_row L x.row li) ∙ row_at L x.row x.strip lj;
      }

  -- the place of row v on diagonal d
  diagonal_where : (d : ℕ) → L.r + d ≡ line_of L x → d < L.n → x.row ≤ L.r → get_or (diagonal_line L d) x.row 0 ≡ X L x.row x.strip → Where L x (L.r + d) x.row
  diagonal_where d its ld li on =
      record {
        its_line = its;
        below = omega arith;
        within = subst (λ (ps : List ℕ). x.row < length ps) (sym (line_diagonal L d)) (omega (arith, diagonal_length L d));
        on = ap (λ (ps : List ℕ). get_or ps x.row 0) (line_diagonal L d) ∙ on;
      }

  pub two_where : Shaped L.n L.r x → x.kind ≡ 2 → (x.row < L.r) × (x.strip < L.n) × Where L x (L.r + L.diagonal x.row x.strip) x.row
  two_where (data_row e li lj) q = absurd (omega arith)
  two_where (h_row e li lj) q = absurd (omega arith)
  two_where (v_diagonal e li lj) q = absurd (omega arith)
  two_where (data_diagonal e li lj) q = (
    li,
    lj,
    diagonal_where (L.diagonal x.row x.strip) (sym (line_cross L x q)) (F.diagonal_lt x.row x.strip li lj) (omega arith)
        (diagonal_at L (L.diagonal x.row x.strip) x.row li ∙ ap (X L x.row) (F.meets_diagonal x.row x.strip li lj)),
  )

  pub four_where : Shaped L.n L.r x → x.kind ≡ 4 → (x.strip < L.n) × Where L x (L.r + L.owner x.strip) x.row
  four_where (data_row e li lj) q = absurd (omega arith)
  four_where (data_diagonal e li lj) q = absurd (omega arith)
  four_where (h_row e li lj) q = absurd (omega arith)
  four_where (v_diagonal e li lj) q = (
    lj,
    diagonal_where (L.owner x.strip) (sym (line_own L x q)) (F.owner_lt x.strip lj) (omega arith)
        (diagonal_end L (L.owner x.strip) x.row li ∙ ap (λ (j : ℕ). X L L.r j) (F.home_owner x.strip lj) ∙ ap (λ (i : ℕ). X L i x.strip) (sym li)),
  )

  pub else_where : Shaped L.n L.r x → x.kind ≢ 2 → x.kind ≢ 4 → Where L x x.row x.strip
  else_where (data_row e li lj) n2 n4 = row_where n2 n4 li (omega arith)
  else_where (h_row e li lj) n2 n4 = row_where n2 n4 li (omega arith)
  else_where (data_diagonal e li lj) n2 n4 = absurd (n2 e)
  else_where (v_diagonal e li lj) n2 n4 = absurd (n4 e)

  -- the place built, the step has run
  pub builds_stepped : (e t v : ℕ) → Where L x t v → (s u : List ℕ) → Builds L e t v s u → Stepped L e x s u t
  builds_stepped e t v w s u b =
      record {
        its_line = w.its_line;
        below = w.below;
        set = record {
          size = b.size;
          each = λ k lk.
              subst (λ (z : ℕ). Ran (line L z) (X L x.row x.strip) (at s e k) (at u e k)) w.its_line
              (subst (λ (p : ℕ). Ran (line L t) p (at s e k) (at u e k)) w.on (b.each k lk));
        };
      }
