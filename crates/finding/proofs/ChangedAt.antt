-- ONE CHANGED ELEMENT of a sound stripe: a line is wrong exactly when the changed place stands on it. Over any fair layout. Assumes nothing.
-- s, t == the stripe before and after    p == the place whose element changed    ps == the places of a line
use Rattle.std.specs.Prelude.{◌≡◌, true, false, ◌≢◌, List, ℕ, ◌+◌, ◌<◌, length, get_or}
use Rattle.std.proofs.Common.{sym, ◌∙◌, subst, arith, eq-eqb, ne_eqb}
use Rattle.std.proofs.Math.Path.{ap}
use Rattle.std.proofs.Math.Bool.{not}
use Rattle.code.specs.Xor.{◌⊕◌, ⊕_eq, zero_⊕}
use Rattle.code.specs.Sum.{sum}
use Rattle.code.specs.Place.{at}
use Rattle.code.specs.Layout.{Layout, Fair, places, row_line, diagonal_line, line}
use Rattle.code.specs.LayoutLaws.{line_row, line_diagonal, layout_within}
use Rattle.code.specs.Below.{first}
use Rattle.code.specs.BelowLaws.{none_some, one_some}
use Rattle.code.specs.Sound.{Sound}
use Rattle.code.specs.SoundLaws.{sound_balanced}
use Rattle.lines.specs.Unbalanced.{unbalanced}
use Rattle.finding.specs.Found.{wrong_row, wrong_diagonal}
use Rattle.finding.specs.Tally.{Tallied}
use Rattle.finding.proofs.TallyLaws.{tallied_same, tallied_one, tallied_none}
use Rattle.finding.proofs.WrongLaws.{row_wrong, diagonal_wrong}
use Rattle.finding.specs.ChangedAt.{ChangedAt}
use Rattle.finding.specs.LinesOf.{Once, Off, OnOne, OnNone, once_sum, off_sum}

module _ (L : Layout) (F : Fair L) (e p : ℕ) (s t : List ℕ) (sound : (k : ℕ) → k < e → Sound L (at s e k)) (c : ChangedAt L e p s t) where
  -- ---- one line

  -- a line's places are the stripe's, and sum to zero before
  record Before (ps : List ℕ) : Type 0 where
    below : (u : ℕ) → u < length ps → get_or ps u 0 < places L
    zero : (k : ℕ) → k < e → sum (at s e k) ps ≡ 0

  line_before : (u : ℕ) → u < L.r + L.n → Before (line L u)
  line_before u lu =
      record { below = λ v lv. (layout_within L F).below u v lu lv; zero = λ k lk. (sound_balanced L F (at s e k) (sound k lk)).zero u lu }

  kept : (ps : List ℕ) → Before ps → (k : ℕ) → k < e → (u : ℕ) → u < length ps → get_or ps u 0 ≢ p
      → at t e k (get_or ps u 0) ≡ at s e k (get_or ps u 0)
  kept ps z k lk u lu ne = c.others (get_or ps u 0) k (z.below u lu) ne lk

  on_wrong : (ps : List ℕ) (v : ℕ) → Before ps → Once ps p v → unbalanced e t ps ≡ true
  unfolding unbalanced
  on_wrong ps v z o =
      one_some e _ c.byte c.within (ap not (ne_eqb (sum (at t e c.byte) ps) 0 (λ q. c.differs (⊕_eq _ _ (sym change ∙ q)))))
    where
      change : sum (at t e c.byte) ps ≡ at s e c.byte p ⊕ at t e c.byte p
      change =
          once_sum (at s e c.byte) (at t e c.byte) ps p (kept ps z c.byte c.within) v o
          ∙ ap (λ (x : ℕ). x ⊕ (at s e c.byte p ⊕ at t e c.byte p)) (z.zero c.byte c.within)
          ∙ zero_⊕ (at s e c.byte p ⊕ at t e c.byte p)

  off_right : (ps : List ℕ) → Before ps → Off ps p → unbalanced e t ps ≡ false
  unfolding unbalanced
  off_right ps z o =
      none_some e _ (λ k lk. ap not (eq-eqb (sum (at t e k) ps) 0 (off_sum (at s e k) (at t e k) ps p (kept ps z k lk) o ∙ z.zero k lk)))

  -- ---- the lines of a kind

  module _ (m : ℕ) (lines : ℕ → List ℕ) (before : (j : ℕ) → j < m → Before (lines j)) where
    one_wrong : (i : ℕ) → OnOne m lines p i → Tallied m (λ j. unbalanced e t (lines j)) 1 i
    one_wrong i o =
        tallied_one m _ i o.below (on_wrong (lines i) o.index (before i o.below) o.once)
        (λ j lj ne. off_right (lines j) (before j lj) (o.off j lj ne))

    none_wrong : OnNone m lines p → Tallied m (λ j. unbalanced e t (lines j)) 0 (first m (λ j. unbalanced e t (lines j)))
    none_wrong o = tallied_none m _ (λ j lj. off_right (lines j) (before j lj) (o.off j lj))

  row_before : (i : ℕ) → i < L.r → Before (row_line L i)
  row_before i li = subst Before (line_row L i li) (line_before i (omega arith))

  diagonal_before : (d : ℕ) → d < L.n → Before (diagonal_line L d)
  diagonal_before d ld = subst Before (line_diagonal L d) (line_before (L.r + d) (omega arith))

  rows_of : (a f : ℕ) → Tallied L.r (λ i. unbalanced e t (row_line L i)) a f → Tallied L.r (wrong_row L e t) a f
  rows_of a f = tallied_same L.r _ a f (wrong_row L e t) (λ i li. row_wrong L e t i)

  diagonals_of : (b f : ℕ) → Tallied L.n (λ d. unbalanced e t (diagonal_line L d)) b f → Tallied L.n (wrong_diagonal L e t) b f
  diagonals_of b f = tallied_same L.n _ b f (wrong_diagonal L e t) (diagonal_wrong L e t F)

  -- the wrong rows, and the wrong diagonals, are those on which the place stands
  pub one_row : (i : ℕ) → OnOne L.r (row_line L) p i → Tallied L.r (wrong_row L e t) 1 i
  one_row i o = rows_of 1 i (one_wrong L.r (row_line L) row_before i o)

  pub no_row : OnNone L.r (row_line L) p → Tallied L.r (wrong_row L e t) 0 (first L.r (λ i. unbalanced e t (row_line L i)))
  no_row o = rows_of 0 _ (none_wrong L.r (row_line L) row_before o)

  pub one_diagonal : (d : ℕ) → OnOne L.n (diagonal_line L) p d → Tallied L.n (wrong_diagonal L e t) 1 d
  one_diagonal d o = diagonals_of 1 d (one_wrong L.n (diagonal_line L) diagonal_before d o)

  pub no_diagonal : OnNone L.n (diagonal_line L) p → Tallied L.n (wrong_diagonal L e t) 0 (first L.n (λ d. unbalanced e t (diagonal_line L d)))
  no_diagonal o = diagonals_of 0 _ (none_wrong L.n (diagonal_line L) diagonal_before o)
