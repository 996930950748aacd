-- THE UNUSED LINES: after a right and complete plan has run, the lines that a step used sum to zero by themselves; so the stripe is sound
-- exactly when the lines that no step used sum to zero, and exactly when some sound stripe agrees with the survivors. Assumes nothing.
use Rattle.std.specs.Prelude.{ℕ, zero, suc, ◌<◌, ◌≤◌, ◌≡◌, ◌≢◌, ◌↔◌, Bool, length, get_or}
use Rattle.std.proofs.Common.{sym, ap, ◌∙◌, subst, arith}
use Rattle.std.proofs.Math.Decide.{ℕ_discrete}
use Rattle.code.specs.Sum.{sum}
use Rattle.code.specs.SumLaws.{sum_ext}
use Rattle.code.specs.Code.{Code, Within, Balanced, Agree, Same}
use Rattle.code.specs.Plan.{Step, Built, Given, survives, built, Gives, Right, Complete}
use Rattle.code.specs.Run.{Run, given_other, run_keeps, run_gives}

-- no step of the plan used line t
pub record Unused (plan : ℕ → Step) (k t : ℕ) : Type 0 where
  pub by_none : (u : ℕ) → u < k → (plan u).line ≢ t

-- some sound stripe agrees with the survivors of f
pub record Agreeable (C : Code) (lost : ℕ → Bool) (f : ℕ → ℕ) : Type 0 where
  pub stripe : ℕ → ℕ
  pub sound : Balanced C stripe
  pub agree : Agree C lost f stripe

data Used (plan : ℕ → Step) (k t : ℕ) : Type 0 where
  by : (u : ℕ) → u < k → (plan u).line ≡ t → Used plan k t
  unused : Unused plan k t → Used plan k t

used? : (plan : ℕ → Step) (k t : ℕ) → Used plan k t
used? plan zero t = unused (record { by_none = λ u l. absurd (none l) })
  where
    none : {u : ℕ} → u < 0 → ⊥
    none h = omega arith
used? plan (suc k) t = go (used? plan k t) (ℕ_discrete (plan k).line t)
  where
    go : Used plan k t → Dec ((plan k).line ≡ t) → Used plan (suc k) t
    go (by u l e) d = by u (omega arith) e
    go (unused x) (yes e) = by k (omega arith) e
    go (unused x) (no ne) = unused (record { by_none = λ u l. last u l (ℕ_discrete u k) })
      where
        last : (u : ℕ) → u < suc k → Dec (u ≡ k) → (plan u).line ≢ t
        last u l (yes e) = λ q. ne (ap (λ (v : ℕ). (plan v).line) (sym e) ∙ q)
        last u l (no z) = x.by_none u (omega arith)

-- a sum that is zero everywhere is zero in an equal stripe
pub same_balanced : (C : Code) → Within C → (f g : ℕ → ℕ) → Same C f g → Balanced C g → Balanced C f
same_balanced C w f g s b =
    record { zero = λ t lt. sum_ext f g (C.line t) (λ v lv. s.all (get_or (C.line t) v 0) (w.below t v lt lv)) ∙ b.zero t lt }

module _ (C : Code) (lost : ℕ → Bool) (plan : ℕ → Step) (k : ℕ) (right : Right C lost plan k) (T : ℕ → ℕ → ℕ) (run : Run C plan k T) where
  -- every place of the line of step u is at hand from then on
  line_given : (u v : ℕ) → u < v → v ≤ k → (i : ℕ) → i < length (C.line (plan u).line) → Given C lost (Built plan v) (get_or (C.line (plan u).line) i 0)
  line_given u v l lv i li = go (right.step u (omega arith))
    where
      more : (p : ℕ) → Given C lost (Built plan u) p → Given C lost (Built plan v) p
      more p (survives e) = survives e
      more p (built z) = built (record { step = z.step; early = omega (arith, z.early); it = z.it })

      go : Gives C lost (Built plan u) (plan u).line (plan u).target → Given C lost (Built plan v) (get_or (C.line (plan u).line) i 0)
      go x = at (ℕ_discrete i x.index)
        where
          at : Dec (i ≡ x.index) → Given C lost (Built plan v) (get_or (C.line (plan u).line) i 0)
          at (yes e) = built (record { step = u; early = l; it = sym x.on ∙ ap (λ (z : ℕ). get_or (C.line (plan u).line) z 0) (sym e) })
          at (no ne) = more (get_or (C.line (plan u).line) i 0) (x.rest i li ne)

  -- the line of a step stays at zero
  used_zero : (u : ℕ) → u < k → (v : ℕ) → u < v → v ≤ k → sum (T v) (C.line (plan u).line) ≡ 0
  used_zero u lu zero l lv = absurd (omega arith)
  used_zero u lu (suc v) l lv = go (ℕ_discrete u v) (used_zero u lu v)
    where
      go : Dec (u ≡ v) → (u < v → v ≤ k → sum (T v) (C.line (plan u).line) ≡ 0) → sum (T (suc v)) (C.line (plan u).line) ≡ 0
      go (yes e) h = subst (λ (z : ℕ). sum (T (suc v)) (C.line (plan z).line) ≡ 0) (sym e) (run.each v (omega arith)).balanced
      go (no ne) h =
          sum_ext (T (suc v)) (T v) (C.line (plan u).line)
          (λ i li. (run.each v (omega arith)).others (get_or (C.line (plan u).line) i 0)
          (given_other C lost plan k right v (omega arith) (get_or (C.line (plan u).line) i 0) (line_given u v (omega arith) (omega arith) i li)))
          ∙ h (omega arith) (omega arith)

  -- what is left to test
  pub unused_sound : ((t : ℕ) → t < C.lines → Unused plan k t → sum (T k) (C.line t) ≡ 0) → Balanced C (T k)
  unused_sound h = record { zero = λ t lt. go t lt (used? plan k t) }
    where
      go : (t : ℕ) → t < C.lines → Used plan k t → sum (T k) (C.line t) ≡ 0
      go t lt (by u lu e) = subst (λ (z : ℕ). sum (T k) (C.line z) ≡ 0) e (used_zero u lu k lu (omega arith))
      go t lt (unused x) = h t lt x

  -- sound exactly when some sound stripe agrees with the survivors
  pub sound_exactly : Within C → Complete C lost plan k → Balanced C (T k) ↔ Agreeable C lost (T 0)
  sound_exactly w c = (
    λ b. record { stripe = T k; sound = b; agree = run_keeps C lost plan k right T run k (omega arith) },
    λ x. same_balanced C w (T k) x.stripe (run_gives C lost plan k right T run w x.stripe x.sound x.agree c) x.sound,
  )
