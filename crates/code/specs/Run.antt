-- Running a plan: each step puts at its target the sum of the rest of its line. On the survivors of a sound stripe a right and complete
-- plan gives that stripe. Assumes nothing.
-- T u == the stripe before step u
use Rattle.std.specs.Prelude.{ℕ, zero, suc, ◌<◌, ◌≤◌, ◌≡◌, refl, ◌≢◌, List, Bool, true, false, get_or}
use Rattle.std.proofs.Common.{sym, ap, ◌∙◌, subst, arith}
use Rattle.std.proofs.Math.Decide.{ℕ_discrete}
use Rattle.code.specs.Sum.{sum}
use Rattle.code.specs.SumLaws.{clash}
use Rattle.code.specs.Code.{Code, Within, Balanced, Agree, Same}
use Rattle.code.specs.Plan.{Step, Built, Given, survives, built, Gives, Right, Complete}
use Rattle.code.specs.Peel.{last_place}

-- g is f after a step: nothing changes but the target, and the line sums to zero
pub record Ran (line : List ℕ) (target : ℕ) (f g : ℕ → ℕ) : Type 0 where
  pub others : (p : ℕ) → p ≢ target → g p ≡ f p
  pub balanced : sum g line ≡ 0

-- the stripes from before the first step to after the last
pub record Run (C : Code) (plan : ℕ → Step) (k : ℕ) (T : ℕ → ℕ → ℕ) : Type 0 where
  pub each : (u : ℕ) → u < k → Ran (C.line (plan u).line) (plan u).target (T u) (T (suc u))

module _ (C : Code) (lost : ℕ → Bool) (plan : ℕ → Step) (k : ℕ) (right : Right C lost plan k) where
  -- what is at hand before step u is not its target
  pub given_other : (u : ℕ) → u < k → (p : ℕ) → Given C lost (Built plan u) p → p ≢ (plan u).target
  given_other u lu p g e = go (right.step u lu) g
    where
      go : Gives C lost (Built plan u) (plan u).line (plan u).target → Given C lost (Built plan u) p → ⊥
      go x (survives c) = clash (sym c ∙ ap (λ (z : ℕ). lost (C.strip z)) e ∙ x.is_lost)
      go x (built z) = x.new (subst (λ (q : ℕ). Built plan u q) e z)

  module _ (T : ℕ → ℕ → ℕ) (run : Run C plan k T) where
    -- survivors stay as they were
    pub run_keeps : (u : ℕ) → u ≤ k → Agree C lost (T 0) (T u)
    run_keeps zero l = record { survivors = λ p lp e. refl }
    run_keeps (suc u) l = go (run_keeps u (omega arith))
      where
        go : Agree C lost (T 0) (T u) → Agree C lost (T 0) (T (suc u))
        go a = record { survivors = λ p lp e. a.survivors p lp e ∙ sym ((run.each u (omega arith)).others p (given_other u (omega arith) p (survives e))) }

    module _ (w : Within C) (g : ℕ → ℕ) (sound : Balanced C g) (agree : Agree C lost (T 0) g) where
      -- before step u: what is at hand is as in the sound stripe
      given_as : (u : ℕ) → u ≤ k → (p : ℕ) → p < C.places → Given C lost (Built plan u) p → T u p ≡ g p
      given_as zero l p lp (survives e) = agree.survivors p lp e
      given_as zero l p lp (built x) = absurd (none x.early)
        where
          none : {t : ℕ} → t < 0 → ⊥
          none h = omega arith
      given_as (suc u) l p lp h = go (right.step u (omega arith)) (run.each u (omega arith)) (given_as u (omega arith)) (ℕ_discrete p (plan u).target)
        where
          back : p ≢ (plan u).target → Given C lost (Built plan (suc u)) p → Given C lost (Built plan u) p
          back ne (survives e) = survives e
          back ne (built z) = at_step (ℕ_discrete z.step u)
            where
              at_step : Dec (z.step ≡ u) → Given C lost (Built plan u) p
              at_step (yes e) = absurd (ne (sym z.it ∙ ap (λ (v : ℕ). (plan v).target) e))
              at_step (no n) = built (record { step = z.step; early = omega (arith, z.early); it = z.it })

          go : Gives C lost (Built plan u) (plan u).line (plan u).target → Ran (C.line (plan u).line) (plan u).target (T u) (T (suc u))
              → ((q : ℕ) → q < C.places → Given C lost (Built plan u) q → T u q ≡ g q) → Dec (p ≡ (plan u).target) → T (suc u) p ≡ g p
          go x y f (no ne) = y.others p ne ∙ f p lp (back ne h)
          go x y f (yes e) =
              ap (T (suc u)) (e ∙ sym x.on)
              ∙ last_place (C.line (plan u).line) (T (suc u)) g x.index x.within (y.balanced ∙ sym (sound.zero (plan u).line x.is_line))
              (λ v lv ne. y.others (get_or (C.line (plan u).line) v 0) (given_other u (omega arith) (get_or (C.line (plan u).line) v 0) (x.rest v lv ne))
              ∙ f (get_or (C.line (plan u).line) v 0) (w.below (plan u).line v x.is_line lv) (x.rest v lv ne))
              ∙ ap g (x.on ∙ sym e)

      -- the plan run on the survivors of a sound stripe gives that stripe
      pub run_gives : Complete C lost plan k → Same C (T k) g
      run_gives c = record { all = λ p lp. go p lp (lost (C.strip p)) refl }
        where
          go : (p : ℕ) → p < C.places → (t : Bool) → lost (C.strip p) ≡ t → T k p ≡ g p
          go p lp false e = given_as k (omega arith) p lp (survives e)
          go p lp true e = given_as k (omega arith) p lp (built (c.all p lp e))
