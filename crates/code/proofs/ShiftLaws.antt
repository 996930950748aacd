-- Laws of the shift family: it is fair, and Latin where r is at most n; its diagonals are 01's formula with its subtraction; and its sound
-- stripes are those of the printed formulas. Assumes nothing.
use Rattle.std.specs.Prelude.{ℕ, ◌+◌, ◌-◌, ◌*◌, ◌%◌, ◌<◌, ◌≤◌, ◌≡◌, refl, ◌↔◌}
use Rattle.std.proofs.Common.{sym, ◌∙◌, mul-le-mul_right, arith}
use Rattle.std.proofs.Math.Path.{ap}
use Rattle.std.proofs.Math.Nat.{mod-lt, mod-eq_of_lt, mod-add-mod, add-mul-mod_self_left}
use Rattle.code.specs.Sum.{sum_to}
use Rattle.code.specs.SumLaws.{sum_to_ext, sum_to_reverse}
use Rattle.code.specs.Layout.{Fair, Latin, X, U}
use Rattle.code.specs.Sound.{Sound, Published}
use Rattle.code.specs.SoundLaws.{sound_published, published_sound}
use Rattle.code.specs.Shift.{diagonal, meets, shift, Printed, Formula}
use Rattle.code.specs.Circle.{mod_cancel, step_cancel}

-- ---- the diagonal of a place

module _ (n r s : ℕ) (pn : 0 < n) where
  -- the multiple of n in front is large enough
  enough : r - 1 + s ≤ n * (r - 1 + s)
  enough = omega (arith, mul-le-mul_right (r - 1 + s) pn)

  -- the diagonal of a place is 01's formula
  pub diagonal_formula : (i j : ℕ) → Formula n r s i j (diagonal n r s i j)
  unfolding diagonal
  diagonal_formula i j =
      record {
        below = mod-lt (n * (r - 1 + s) + j + i - (r - 1 + s)) pn;
        turned = ap (λ (x : ℕ). x % n) (omega arith)
            ∙ mod-add-mod (n * (r - 1 + s) + j + i - (r - 1 + s)) n (r - 1 + s)
            ∙ ap (λ (x : ℕ). x % n) (omega (arith, enough))
            ∙ add-mul-mod_self_left (j + i) n (r - 1 + s);
      }

  -- no other number is
  pub formula_one : (i j d e : ℕ) → Formula n r s i j d → Formula n r s i j e → d ≡ e
  formula_one i j d e a b =
      step_cancel n (r - 1 + s) d e a.below b.below
      (ap (λ (x : ℕ). x % n) (omega arith) ∙ a.turned ∙ sym (ap (λ (x : ℕ). x % n) (omega arith) ∙ b.turned))

  -- where nothing falls below zero the formula stands as it is
  pub diagonal_plain : (i j : ℕ) → r - 1 + s ≤ j + i → diagonal n r s i j ≡ (j + i - (r - 1) - s) % n
  diagonal_plain i j h =
      formula_one i j (diagonal n r s i j) ((j + i - (r - 1) - s) % n) (diagonal_formula i j)
      (record {
        below = mod-lt (j + i - (r - 1) - s) pn;
        turned = ap (λ (x : ℕ). x % n) (omega arith) ∙ mod-add-mod (j + i - (r - 1) - s) n (r - 1 + s) ∙ ap (λ (x : ℕ). x % n) (omega arith);
      })

  -- ---- the layout

  shift_meets : (i j : ℕ) → i < r → j < n → meets n r s i (diagonal n r s i j) ≡ j
  unfolding meets diagonal
  shift_meets i j li lj =
      ap (λ (x : ℕ). x % n) (omega arith)
      ∙ mod-add-mod (n * (r - 1 + s) + j + i - (r - 1 + s)) n (r - 1 - i + s)
      ∙ ap (λ (x : ℕ). x % n) (omega (arith, enough))
      ∙ add-mul-mod_self_left j n (r - 1 + s)
      ∙ mod-eq_of_lt lj

  shift_diagonal : (i d : ℕ) → i < r → d < n → diagonal n r s i (meets n r s i d) ≡ d
  unfolding meets diagonal
  shift_diagonal i d li ld =
      ap (λ (x : ℕ). x % n) (omega (arith, enough))
      ∙ mod-add-mod (d + (r - 1 - i) + s) n (i + (n * (r - 1 + s) - (r - 1 + s)))
      ∙ ap (λ (x : ℕ). x % n) (omega (arith, enough))
      ∙ add-mul-mod_self_left d n (r - 1 + s)
      ∙ mod-eq_of_lt ld

  -- diagonals and meeting places undo each other
  pub shift_fair : Fair (shift n r s)
  unfolding meets
  shift_fair =
      record {
        diagonal_lt = λ i j li lj. (diagonal_formula i j).below;
        meets_lt = λ i d li ld. mod-lt (d + (r - 1 - i) + s) pn;
        meets_diagonal = shift_meets;
        diagonal_meets = shift_diagonal;
        home_lt = λ d ld. ld;
        owner_lt = λ j lj. lj;
        home_owner = λ j lj. refl;
        owner_home = λ d ld. refl;
      }

  -- no strip has a diagonal twice
  pub shift_latin : r ≤ n → Latin (shift n r s)
  shift_latin lr = record { down = λ i m j li lm lj e. mod_cancel n j i m lj (omega arith) (omega arith) (turned i m j e) }
    where
      turned : (i m j : ℕ) → diagonal n r s i j ≡ diagonal n r s m j → (j + i) % n ≡ (j + m) % n
      turned i m j e = sym (diagonal_formula i j).turned ∙ ap (λ (d : ℕ). (d + (r - 1) + s) % n) e ∙ (diagonal_formula m j).turned

  -- ---- the printed formulas

  module _ (f : ℕ → ℕ) where
    -- the sum of diagonal j from below, as printed, is the sum from above
    upward : (j : ℕ) → sum_to r (λ i. f (X (shift n r s) i (meets n r s i j))) ≡ sum_to r (λ k. f (X (shift n r s) (r - 1 - k) ((j + k + s) % n)))
    unfolding meets
    upward j =
        sum_to_reverse r (λ i. f (X (shift n r s) i (meets n r s i j)))
        ∙ sum_to_ext r (λ k. f (X (shift n r s) (r - 1 - k) (meets n r s (r - 1 - k) j))) (λ k. f (X (shift n r s) (r - 1 - k) ((j + k + s) % n)))
        (λ k lk. ap (λ (x : ℕ). f (X (shift n r s) (r - 1 - k) ((j + x + s) % n))) (omega arith))

    -- sound is sound as printed
    pub printed : Sound (shift n r s) f ↔ Printed n r s f
    printed = (
      λ sound. to (sound_published (shift n r s) shift_fair f sound),
      λ p. published_sound (shift n r s) shift_fair f (record { rows = p.h; diagonals = λ d ld. p.u d ld ∙ sym (upward d) }),
    )
      where
        to : Published (shift n r s) f → Printed n r s f
        to p = record { h = p.rows; u = λ j lj. p.diagonals j lj ∙ upward j }

-- formula 3.1 of 000, second line: where s = 1, U(j) is the sum over k below r of X(k, (j + r - k) mod n)
pub base_formula : (n r : ℕ) → 0 < n → (f : ℕ → ℕ) → Sound (shift n r 1) f
    → (j : ℕ) → j < n → f (U (shift n r 1) j) ≡ sum_to r (λ k. f (X (shift n r 1) k ((j + r - k) % n)))
unfolding meets
base_formula n r pn f sound j lj =
    (sound_published (shift n r 1) (shift_fair n r 1 pn) f sound).diagonals j lj
    ∙ sum_to_ext r (λ k. f (X (shift n r 1) k (meets n r 1 k j))) (λ k. f (X (shift n r 1) k ((j + r - k) % n)))
    (λ k lk. ap (λ (x : ℕ). f (X (shift n r 1) k (x % n))) (omega arith))
