-- Laws of a plan that has run: the stripe is mended, or no sound stripe agrees with the survivors. Assumes nothing.
-- b, a == the stripe before and after the run    used == the marks of the lines that it used
use Rattle.std.specs.Prelude.{ℕ, zero, suc, ◌<◌, ◌+◌, ◌≡◌, refl, Bool, true, false, List, length, get_or, replicate}
use Rattle.code.specs.Sum.{sum}
use Rattle.code.specs.Place.{strip_of, at}
use Rattle.code.specs.Layout.{Layout, Fair, height, places, line}
use Rattle.code.specs.Sound.{Stripe}
use Rattle.rebuild.specs.Rebuild.{Kept, Mended, Cleared}
use Rattle.rebuild.specs.PlanRun.{PlanRun}
use Rattle.rebuild.proofs.RunLaws.{run_none, run_kept, run_mended, run_cleared}
use Rattle.rebuild.specs.RunBytes.{run_stripe}
use Rattle.rebuild.specs.WholePlan.{nothing_planned}
use Rattle.rebuild.specs.Marks.{marked_none}

-- a table of one value reads as that value everywhere, also past its end: so a table of zeros is zero, and a table of false has no mark
same_everywhere : {A : Type 0} (x : A) (m t : ℕ) → get_or (replicate m x) t x ≡ x
same_everywhere x zero t = refl
same_everywhere x (suc m) zero = refl
same_everywhere x (suc m) (suc t) = same_everywhere x m t

pub zeros : (m t : ℕ) → ◌≡◌ {A = ℕ} (get_or (replicate m 0) t 0) 0
zeros = same_everywhere 0

pub no_marks : (m t : ℕ) → get_or (replicate m false) t false ≡ false
no_marks = same_everywhere false

-- where nothing is lost, nothing has to run
pub no_run : (L : Layout) (e : ℕ) (lost : ℕ → Bool) → ((j : ℕ) → lost j ≡ false) → (s : List ℕ) (used : List Bool) → ((t : ℕ) → get_or used t false ≡ false) → PlanRun L e lost s s used
no_run L e lost none s used clean =
    record {
      plan = λ u. record { line = 0; target = 0 };
      count = 0;
      planned = nothing_planned L lost none (λ u. record { line = 0; target = 0 });
      run = run_none L e (λ u. record { line = 0; target = 0 }) s;
      marks = marked_none (λ u. record { line = 0; target = 0 }) used clean;
    }

module _ (L : Layout) (F : Fair L) (e : ℕ) (lost : ℕ → Bool) (b a : List ℕ) (used : List Bool) (x : PlanRun L e lost b a used) where
  pub ran_size : length a ≡ length b
  ran_size = (run_kept L F e lost x.plan x.count x.planned b a x.run).size

  -- every line without a mark sums to zero: mended
  pub ran_mended : Stripe L e b → ((t : ℕ) → t < L.r + L.n → get_or used t false ≡ false → (k : ℕ) → k < e → sum (at a e k) (line L t) ≡ 0) → Mended L e lost b a
  ran_mended s h =
      run_mended L F e lost x.plan x.count x.planned b a x.run
      (run_stripe L F e lost x.plan x.count x.planned b a x.run s) (record { zero = λ t lt un. h t lt (x.marks.unmarked t un) })

  -- some line does not: no sound stripe agrees with the survivors
  pub ran_cleared : (t k : ℕ) → t < L.r + L.n → k < e → (sum (at a e k) (line L t) ≡ 0 → ⊥) → (c : List ℕ) → Kept L e lost a c
      → ((p i : ℕ) → p < places L → i < e → lost (strip_of (height L) p) ≡ true → at c e i p ≡ 0) → Cleared L e lost b c
  ran_cleared t k lt lk bad c kept z = run_cleared L F e lost x.plan x.count x.planned b a x.run c t lt (λ h. bad (h k lk)) kept z
