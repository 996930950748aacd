-- Laws of the others: with the one they are the line, and in a layout none of them is the one. Assumes nothing.
use Rattle.std.specs.Prelude.{ℕ, ◌+◌, ◌-◌, ◌<◌, ◌≡◌, refl, ◌≢◌, Bool, List, eqb, length, get_or}
use Rattle.std.proofs.Common.{sym, ap, ◌∙◌, subst, arith, eq-eqb, ne_eqb}
use Rattle.std.proofs.Math.Decide.{ℕ_discrete, dec_lt}
use Rattle.code.specs.Xor.{◌⊕◌, ⊕_assoc, ⊕_comm, ⊕_self, zero_⊕}
use Rattle.code.specs.Sum.{sum, sum_to, pick}
use Rattle.code.specs.SumLaws.{sum_to_more, sum_to_ext, sum_to_change, sum_index, sum_table, length_table, get_or_table}
use Rattle.code.specs.Place.{same_row, same_strip}
use Rattle.code.specs.Layout.{Layout, Fair, height, line, row_line, diagonal_line}
use Rattle.code.specs.LayoutLaws.{row_length, row_at, diagonal_length, diagonal_at, diagonal_end, by_lines}
use Rattle.lines.specs.Others.{others}

-- ---- where they stand

-- which place of the line stands at w among the others
abbrev pub from_line : ℕ → ℕ → ℕ → ℕ
from_line m v w = pick (eqb w v) (m - 1) w

pub others_length : (ps : List ℕ) (v : ℕ) → length (others ps v) ≡ length ps - 1
unfolding others
others_length ps v = length_table (length ps - 1) (λ w. get_or ps (from_line (length ps) v w) 0)

pub others_at : (ps : List ℕ) (v w : ℕ) → w < length ps - 1 → get_or (others ps v) w 0 ≡ get_or ps (from_line (length ps) v w) 0
unfolding others
others_at ps v w l = get_or_table (length ps - 1) (λ w. get_or ps (from_line (length ps) v w) 0) 0 w l

pub from_same : (m v : ℕ) → from_line m v v ≡ m - 1
from_same m v = ap (λ (t : Bool). pick t (m - 1) v) (eq-eqb v v refl)

pub from_other : (m v w : ℕ) → w ≢ v → from_line m v w ≡ w
from_other m v w ne = ap (λ (t : Bool). pick t (m - 1) w) (ne_eqb w v ne)

-- it is a place of the line, and not the one
pub record Else (m v x : ℕ) : Type 0 where
  pub within : x < m
  pub other : x ≢ v

pub from_else : (m v w : ℕ) → w < m - 1 → Else m v (from_line m v w)
from_else m v w l = go (ℕ_discrete w v)
  where
    go : Dec (w ≡ v) → Else m v (from_line m v w)
    go (yes e) = subst (λ (x : ℕ). Else m v (from_line m v x)) (sym e) (subst (Else m v) (sym (from_same m v)) (record { within = omega arith; other = λ q. omega arith }))
    go (no ne) = subst (Else m v) (sym (from_other m v w ne)) (record { within = omega arith; other = ne })

-- ---- their sum

-- (a ⊕ (b ⊕ c)) ⊕ b is a ⊕ c
cancel : (a b c : ℕ) → (a ⊕ (b ⊕ c)) ⊕ b ≡ a ⊕ c
cancel a b c =
    ⊕_assoc a (b ⊕ c) b
    ∙ ap (λ (x : ℕ). a ⊕ x) (⊕_comm (b ⊕ c) b ∙ sym (⊕_assoc b b c) ∙ ap (λ (x : ℕ). x ⊕ c) (⊕_self b) ∙ zero_⊕ c)

-- the sum over all but v of the first m + 1 numbers, the last in v's room
swapped : (m v : ℕ) → v < m + 1 → (f : ℕ → ℕ) → sum_to (m + 1) f ≡ sum_to m (λ w. f (from_line (m + 1) v w)) ⊕ f v
swapped m v l f = sum_to_more m f ∙ go (ℕ_discrete v m)
  where
    go : Dec (v ≡ m) → sum_to m f ⊕ f m ≡ sum_to m (λ w. f (from_line (m + 1) v w)) ⊕ f v
    go (yes e) =
        ap (λ (x : ℕ). sum_to m f ⊕ f x) (sym e)
        ∙ ap (λ (x : ℕ). x ⊕ f v) (sum_to_ext m f (λ w. f (from_line (m + 1) v w)) (λ w lw. ap f (sym (from_other (m + 1) v w (λ q. omega arith)))))
    go (no ne) =
        sym (cancel (sum_to m f) (f v) (f m))
        ∙ ap (λ (x : ℕ). x ⊕ f v)
        (sym (sum_to_change m f (λ w. f (from_line (m + 1) v w)) (f v ⊕ f m) v (omega arith)
        (ap f (from_same (m + 1) v ∙ last) ∙ sym (sym (⊕_assoc (f v) (f v) (f m)) ∙ ap (λ (x : ℕ). x ⊕ f m) (⊕_self (f v)) ∙ zero_⊕ (f m)))
        (λ w lw nw. ap f (from_other (m + 1) v w nw))))
      where
        last : m + 1 - 1 ≡ m
        last = omega arith

-- a line's sum is that of the others and the one
pub sum_others : (f : ℕ → ℕ) (ps : List ℕ) (v : ℕ) → v < length ps → sum f ps ≡ sum f (others ps v) ⊕ f (get_or ps v 0)
unfolding others
sum_others f ps v l =
    sum_index f ps
    ∙ subst (λ (x : ℕ). sum_to x (λ i. f (get_or ps i 0)) ≡ sum_to (x - 1) (λ w. f (get_or ps (from_line x v w) 0)) ⊕ f (get_or ps v 0)) (sym more) all
    ∙ ap (λ (x : ℕ). x ⊕ f (get_or ps v 0)) (sym (sum_table f (λ w. get_or ps (from_line (length ps) v w) 0) (length ps - 1)))
  where
    m : ℕ
    m = length ps - 1

    more : length ps ≡ m + 1
    more = omega arith

    less : m + 1 - 1 ≡ m
    less = omega arith

    all : sum_to (m + 1) (λ i. f (get_or ps i 0)) ≡ sum_to (m + 1 - 1) (λ w. f (get_or ps (from_line (m + 1) v w) 0)) ⊕ f (get_or ps v 0)
    all = swapped m v (omega arith) (λ i. f (get_or ps i 0)) ∙ ap (λ (x : ℕ). sum_to x (λ w. f (get_or ps (from_line (m + 1) v w) 0)) ⊕ f (get_or ps v 0)) (sym less)

-- ---- in a layout

-- no place stands twice on a line
pub record Distinct (ps : List ℕ) : Type 0 where
  pub apart : (v w : ℕ) → v < length ps → w < length ps → get_or ps v 0 ≡ get_or ps w 0 → v ≡ w

module _ (L : Layout) (F : Fair L) where
  row_distinct : (i : ℕ) → i < L.r → Distinct (row_line L i)
  row_distinct i li =
      record {
        apart = λ v w lv lw e.
            let len = row_length L i in
            same_strip (height L) i v i w (omega arith) (omega arith) (sym (row_at L i v (omega arith)) ∙ e ∙ row_at L i w (omega arith));
      }

  pub line_distinct : (t : ℕ) → t < L.r + L.n → Distinct (line L t)
  line_distinct = by_lines L (λ t ps. Distinct ps) row_distinct (λ d ld. diagonal_distinct d)
    where
      diagonal_distinct : (d : ℕ) → Distinct (diagonal_line L d)
      diagonal_distinct d =
          record {
            apart = λ v w lv lw e.
                let len = diagonal_length L d in
                go v w (omega arith) (omega arith) e (dec_lt v L.r) (dec_lt w L.r);
          }
        where
          go : (v w : ℕ) → v < L.r + 1 → w < L.r + 1 → get_or (diagonal_line L d) v 0 ≡ get_or (diagonal_line L d) w 0 → Dec (v < L.r) → Dec (w < L.r) → v ≡ w
          go v w lv lw e (yes a) (yes b) =
              same_row (height L) v (L.meets v d) w (L.meets w d) (omega arith) (omega arith) (sym (diagonal_at L d v a) ∙ e ∙ diagonal_at L d w b)
          go v w lv lw e (yes a) (no b) =
              absurd (omega (arith, same_row (height L) v (L.meets v d) L.r (L.home d) (omega arith) (omega arith) (sym (diagonal_at L d v a) ∙ e ∙ diagonal_end L d w (omega arith))))
          go v w lv lw e (no a) (yes b) =
              absurd (omega (arith, same_row (height L) w (L.meets w d) L.r (L.home d) (omega arith) (omega arith) (sym (diagonal_at L d w b) ∙ sym e ∙ diagonal_end L d v (omega arith))))
          go v w lv lw e (no a) (no b) = omega arith

  -- none of the others is the one
  pub others_apart : (t v w : ℕ) → t < L.r + L.n → v < length (line L t) → w < length (line L t) - 1 → get_or (others (line L t) v) w 0 ≢ get_or (line L t) v 0
  others_apart t v w lt lv lw e =
      let x = from_else (length (line L t)) v w lw in
      x.other ((line_distinct t lt).apart (from_line (length (line L t)) v w) v x.within lv (sym (others_at (line L t) v w lw) ∙ e))
