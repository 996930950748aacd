-- Laws of wrong lines: a line does not sum to zero in some byte exactly when its parity has not its value in every byte. Assumes nothing.
use Rattle.std.specs.Prelude.{◌≡◌, not, List, ℕ, ◌+◌, ◌<◌, eqb}
use Rattle.std.proofs.Common.{sym, ◌∙◌, zero-add, eq-eqb, ne_eqb}
use Rattle.std.proofs.Math.Path.{ap}
use Rattle.std.proofs.Math.Decide.{ℕ_discrete}
use Rattle.code.specs.Xor.{◌⊕◌, ⊕_eq, ⊕_of_eq}
use Rattle.code.specs.Sum.{sum, sum_to}
use Rattle.code.specs.BelowLaws.{some_same}
use Rattle.code.specs.Place.{at}
use Rattle.code.specs.Layout.{Layout, Fair, X, H, U, row_line, diagonal_line, line}
use Rattle.code.specs.LayoutLaws.{row_sum, diagonal_sum, line_row, line_diagonal}
use Rattle.code.specs.Sound.{along}
use Rattle.code.specs.SoundLaws.{along_meets}
use Rattle.lines.specs.Unbalanced.{unbalanced}
use Rattle.finding.specs.Found.{wrong_row, wrong_diagonal}
use Rattle.finding.specs.Tally.{Tallied}
use Rattle.finding.proofs.TallyLaws.{tallied_same}

-- ---- one line

-- two tests of equations that follow from each other
test_same : (a b x y : ℕ) → (a ≡ b → x ≡ y) → (x ≡ y → a ≡ b) → not (eqb a b) ≡ not (eqb x y)
test_same a b x y to from = ap not (go (ℕ_discrete a b))
  where
    go : Dec (a ≡ b) → eqb a b ≡ eqb x y
    go (yes e) = eq-eqb a b e ∙ sym (eq-eqb x y (to e))
    go (no ne) = ne_eqb a b ne ∙ sym (ne_eqb x y (λ e. ne (from e)))

-- a line that sums to x, its data to y, with the parity p
balance : (x y p : ℕ) → x ≡ y ⊕ p → not (eqb x 0) ≡ not (eqb p y)
balance x y p z = test_same x 0 p y (λ e. sym (⊕_eq y p (sym z ∙ e))) (λ e. z ∙ ⊕_of_eq y p (sym e))

module _ (L : Layout) (e : ℕ) (s : List ℕ) where
  -- a row does not sum to zero in some byte exactly when its H is wrong
  pub row_wrong : (i : ℕ) → unbalanced e s (row_line L i) ≡ wrong_row L e s i
  unfolding unbalanced
  row_wrong i =
      some_same e _ _ (λ k lk.
      balance (sum (at s e k) (row_line L i)) (sum_to L.n (λ j. at s e k (X L i j))) (at s e k (H L i)) (row_sum L (at s e k) i))

  -- and a diagonal exactly when its U is
  pub diagonal_wrong : Fair L → (d : ℕ) → d < L.n → unbalanced e s (diagonal_line L d) ≡ wrong_diagonal L e s d
  unfolding unbalanced
  diagonal_wrong F d ld =
      some_same e _ _ (λ k lk.
      balance (sum (at s e k) (diagonal_line L d)) (along L (λ i j. at s e k (X L i j)) d) (at s e k (U L d))
      (diagonal_sum L (at s e k) d ∙ ap (λ (x : ℕ). x ⊕ at s e k (U L d)) (sym (along_meets L F (λ i j. at s e k (X L i j)) d ld))))

  -- the wrong ones of the first r lines are the wrong rows, and of the n from r on the wrong diagonals
  pub tallied_rows : (c f : ℕ) → Tallied L.r (λ v. unbalanced e s (line L (0 + v))) c f → Tallied L.r (wrong_row L e s) c f
  tallied_rows c f =
      tallied_same L.r _ c f (wrong_row L e s)
      (λ v l. ap (λ (t : ℕ). unbalanced e s (line L t)) (zero-add v) ∙ ap (unbalanced e s) (line_row L v l) ∙ row_wrong v)

  pub tallied_diagonals : Fair L → (c f : ℕ) → Tallied L.n (λ v. unbalanced e s (line L (L.r + v))) c f → Tallied L.n (wrong_diagonal L e s) c f
  tallied_diagonals F c f =
      tallied_same L.n _ c f (wrong_diagonal L e s) (λ d l. ap (unbalanced e s) (line_diagonal L d) ∙ diagonal_wrong F d l)
