-- Laws of sound: 01's form by diagonals is the published one, and a stripe is sound exactly when every line sums to zero. Assumes nothing.
use Rattle.std.specs.Prelude.{◌≡◌, ℕ, ◌+◌, ◌<◌, eqb}
use Rattle.std.proofs.Common.{sym, ◌∙◌, arith}
use Rattle.std.proofs.Math.Path.{ap}
use Rattle.code.specs.Xor.{⊕_eq, ⊕_of_eq}
use Rattle.code.specs.Sum.{sum, sum_to, only}
use Rattle.code.specs.SumLaws.{sum_to_ext, sum_to_one, only_yes, only_no}
use Rattle.code.specs.Code.{Balanced}
use Rattle.code.specs.Layout.{Layout, Fair, X, H, U, code}
use Rattle.code.specs.LayoutLaws.{row_sum, diagonal_sum, line_row, line_diagonal, by_lines}
use Rattle.code.specs.Sound.{along, Sound, Published}

module _ (L : Layout) (F : Fair L) where
  -- a diagonal has one place in each row, so its data is what stands where it meets them
  pub along_meets : (x : ℕ → ℕ → ℕ) (d : ℕ) → d < L.n → along L x d ≡ sum_to L.r (λ i. x i (L.meets i d))
  unfolding along
  along_meets x d ld =
      sum_to_ext L.r (λ i. sum_to L.n (λ j. only (eqb (L.diagonal i j) d) (x i j))) (λ i. x i (L.meets i d))
      (λ i li.
      sum_to_one L.n (λ j. only (eqb (L.diagonal i j) d) (x i j)) (L.meets i d) (F.meets_lt i d li ld)
      (λ j lj ne. only_no (L.diagonal i j) d (x i j) (λ e. ne (sym (F.meets_diagonal i j li lj) ∙ ap (L.meets i) e)))
      ∙ only_yes (L.diagonal i (L.meets i d)) d (x i (L.meets i d)) (F.diagonal_meets i d li ld))

  module _ (f : ℕ → ℕ) where
    pub sound_published : Sound L f → Published L f
    sound_published s = record { rows = s.rows; diagonals = λ d ld. s.diagonals d ld ∙ along_meets (λ i j. f (X L i j)) d ld }

    pub published_sound : Published L f → Sound L f
    published_sound s = record { rows = s.rows; diagonals = λ d ld. s.diagonals d ld ∙ sym (along_meets (λ i j. f (X L i j)) d ld) }

    -- every line of a sound stripe sums to zero
    pub sound_balanced : Sound L f → Balanced (code L) f
    sound_balanced s =
        record {
          zero = by_lines L (λ t ps. sum f ps ≡ 0)
              (λ i li. row_sum L f i ∙ ⊕_of_eq (sum_to L.n (λ j. f (X L i j))) (f (H L i)) (sym (s.rows i li)))
              (λ d ld. diagonal_sum L f d
              ∙ ⊕_of_eq (sum_to L.r (λ i. f (X L i (L.meets i d)))) (f (U L d)) (sym ((sound_published s).diagonals d ld)));
        }

    -- and a stripe whose every line sums to zero is sound
    pub balanced_sound : Balanced (code L) f → Sound L f
    balanced_sound b =
        published_sound (record {
          rows = λ i li.
              sym (⊕_eq (sum_to L.n (λ j. f (X L i j))) (f (H L i))
              (sym (row_sum L f i) ∙ ap (sum f) (sym (line_row L i li)) ∙ b.zero i (omega arith)));
          diagonals = λ d ld.
              sym (⊕_eq (sum_to L.r (λ i. f (X L i (L.meets i d)))) (f (U L d))
              (sym (diagonal_sum L f d) ∙ ap (sum f) (sym (line_diagonal L d)) ∙ b.zero (L.r + d) (omega arith)));
        })
