-- Laws of the test: one line more, the end, and the line that fails. Assumes nothing.
use Rattle.std.specs.Prelude.{◌≡◌, Bool, true, false, List, ℕ, ◌+◌, ◌≤◌, ◌<◌, eqb, get_or}
use Rattle.std.proofs.Common.{sym, ap, ◌∙◌, not-suc-le-zero, arith, below_more, eq-eqb, eqb-true}
use Rattle.std.proofs.Math.Bool.{not}
use Rattle.std.proofs.lemmas.Bool.{not-false}
use Rattle.code.specs.Sum.{sum}
use Rattle.code.specs.SumLaws.{clash}
use Rattle.code.specs.BelowLaws.{Hit, some_none, some_hit}
use Rattle.code.specs.Place.{at}
use Rattle.code.specs.Layout.{Layout, line}
use Rattle.lines.specs.Unbalanced.{unbalanced}
use Rattle.rebuild.specs.Testing.{Passed, Failed, Tests}

module _ (L : Layout) (e : ℕ) (used : List Bool) (s : List ℕ) where
  -- line t sums to zero unless a step used it
  abbrev Zero : ℕ → Type 0
  Zero t = get_or used t false ≡ false → (k : ℕ) → k < e → sum (at s e k) (line L t) ≡ 0

  pub passed_none : Passed L e used s 0
  passed_none = record { zero = λ t l. absurd (not-suc-le-zero l) }

  passed_more : (m : ℕ) → Zero m → Passed L e used s m → Passed L e used s (m + 1)
  passed_more m h p = record { zero = below_more Zero m p.zero h }

  -- a line that a step used
  pub passed_used : (m : ℕ) → get_or used m false ≡ true → Passed L e used s m → Passed L e used s (m + 1)
  passed_used m y = passed_more m (λ z. clash (sym z ∙ y))

  -- a line that is not wrong
  pub passed_right : (m : ℕ) → unbalanced e s (line L m) ≡ false → Passed L e used s m → Passed L e used s (m + 1)
  unfolding unbalanced
  passed_right m q =
      passed_more m (λ z k lk. eqb-true (sum (at s e k) (line L m)) 0 (not-false (eqb (sum (at s e k) (line L m)) 0) (some_none e _ q k lk)))

  -- all are tested
  pub passed_tests : (m : ℕ) → L.r + L.n ≤ m → Passed L e used s m → Tests L e used s true
  passed_tests m l p = record { passed = λ x t lt. p.zero t (omega arith); failed = λ x. clash (sym x) }

  -- an unused line is wrong
  pub wrong_tests : (t : ℕ) → t < L.r + L.n → get_or used t false ≡ false → unbalanced e s (line L t) ≡ true → Tests L e used s false
  unfolding unbalanced
  wrong_tests t lt z q = record { passed = λ x. clash x; failed = λ x. at_hit (some_hit e _ q) }
    where
      at_hit : Hit e (λ k. not (eqb (sum (at s e k) (line L t)) 0)) → Failed L e used s
      at_hit h =
          record {
            t = t;
            is_line = lt;
            unused = z;
            byte = h.k;
            in_element = h.below;
            wrong = λ w. clash (ap not (sym (eq-eqb (sum (at s e h.k) (line L t)) 0 w)) ∙ h.holds);
          }
