-- Running a right and complete plan on a buffer keeps the survivors; where the surplus lines then sum to zero the stripe is mended, and where
-- one does not, no sound stripe agrees with the survivors. Assumes nothing.
use Rattle.std.specs.Prelude.{◌≡◌, refl, Bool, true, List, ℕ, zero, suc, ◌+◌, ◌≤◌, ◌<◌, leb, length}
use Rattle.std.proofs.Common.{sym, ap, ◌∙◌, subst, not-suc-le-zero, arith, le-leb}
use Rattle.std.proofs.Math.Decide.{ℕ_discrete}
use Rattle.std.proofs.lemmas.Bool.{lt-leb}
use Rattle.code.specs.Sum.{sum, pick}
use Rattle.code.specs.Code.{Balanced}
use Rattle.code.specs.Place.{at}
use Rattle.code.specs.Plan.{Step}
use Rattle.code.specs.Run.{Run, run_keeps}
use Rattle.code.specs.Unused.{unused_sound, sound_exactly}
use Rattle.code.specs.Unused as bytewise
use Rattle.code.specs.Layout.{Layout, Fair, places, line, code}
use Rattle.code.specs.LayoutLaws.{layout_within}
use Rattle.code.specs.Sound.{Stripe}
use Rattle.code.specs.SoundLaws.{sound_balanced, balanced_sound}
use Rattle.rebuild.specs.Rebuild.{Kept, Agreeable, Mended, Cleared}
use Rattle.rebuild.proofs.RebuildLaws.{kept_trans}
use Rattle.rebuild.specs.WholePlan.{Planned}
use Rattle.rebuild.specs.RunTo.{StepSet, RunTo, SurplusZero}

-- ---- step after step

module _ (L : Layout) (e : ℕ) (plan : ℕ → Step) where
  pub run_none : (b : List ℕ) → RunTo L e plan 0 b b
  run_none b = record { state = λ u. b; first = refl; last = refl; each = λ u lu. absurd (not-suc-le-zero lu) }

  pub run_more : (k : ℕ) (b s t : List ℕ) → RunTo L e plan k b s → StepSet L e (plan k) s t → RunTo L e plan (k + 1) b t
  run_more k b s t x y =
      record {
        state = λ u. pick (leb u k) (x.state u) t;
        first = early 0 (omega arith) ∙ x.first;
        last = late (k + 1) (omega arith);
        each = λ u lu. go u (omega arith) (ℕ_discrete u k);
      }
    where
      early : (u : ℕ) → u ≤ k → pick (leb u k) (x.state u) t ≡ x.state u
      early u l = ap (λ (z : Bool). pick z (x.state u) t) (le-leb u k l)

      late : (u : ℕ) → k < u → pick (leb u k) (x.state u) t ≡ t
      late u l = ap (λ (z : Bool). pick z (x.state u) t) (lt-leb u k l)

      there : (u : ℕ) (p q v w : List ℕ) → v ≡ p → w ≡ q → StepSet L e (plan u) p q → StepSet L e (plan u) v w
      there u p q v w g h z = subst (λ (m : List ℕ). StepSet L e (plan u) m w) (sym g) (subst (StepSet L e (plan u) p) (sym h) z)

      go : (u : ℕ) → u ≤ k → Dec (u ≡ k) → StepSet L e (plan u) (pick (leb u k) (x.state u) t) (pick (leb (suc u) k) (x.state (suc u)) t)
      go u l (yes q) =
          there u s t _ _ (early u l ∙ ap x.state q ∙ x.last) (late (suc u) (omega arith))
          (subst (λ (v : ℕ). StepSet L e (plan v) s t) (sym q) y)
      go u l (no q) = there u (x.state u) (x.state (suc u)) _ _ (early u l) (early (suc u) (omega arith)) (x.each u (omega arith))

-- ---- what a run leaves

module _ (L : Layout) (F : Fair L) (e : ℕ) (lost : ℕ → Bool) (plan : ℕ → Step) (k : ℕ) (pl : Planned L lost plan k)
    (b a : List ℕ) (run : RunTo L e plan k b a) where
  -- byte i of every element
  run_at : (i : ℕ) → i < e → Run (code L) plan k (λ u. at (run.state u) e i)
  run_at i li = record { each = λ u lu. (run.each u lu).each i li }

  sizes : (u : ℕ) → u ≤ k → length (run.state u) ≡ length b
  sizes zero l = ap length run.first
  sizes (suc u) l = (run.each u (omega arith)).size ∙ sizes u (omega arith)

  -- the survivors stay
  pub run_kept : Kept L e lost b a
  run_kept =
      subst (λ (s : List ℕ). Kept L e lost s a) run.first
      (subst (Kept L e lost (run.state 0)) run.last
      (record {
        size = sizes k (omega arith) ∙ sym (sizes 0 (omega arith));
        survivors = λ i li. run_keeps (code L) lost plan k pl.right (λ u. at (run.state u) e i) (run_at i li) k (omega arith);
      }))

  balanced : SurplusZero L e plan k a → (i : ℕ) → i < e → Balanced (code L) (at a e i)
  balanced z i li =
      subst (λ (s : List ℕ). Balanced (code L) (at s e i)) run.last
      (unused_sound (code L) lost plan k pl.right (λ u. at (run.state u) e i) (run_at i li)
      (λ t lt un. ap (λ (s : List ℕ). sum (at s e i) (line L t)) run.last ∙ z.zero t lt un i li))

  -- mended where the surplus lines sum to zero
  pub run_mended : Stripe L e a → SurplusZero L e plan k a → Mended L e lost b a
  run_mended s z = record { kept = run_kept; sound = record { stripe = s; each = λ i li. balanced_sound L F (at a e i) (balanced z i li) } }

  -- where some sound stripe agrees with the survivors, every line sums to zero
  pub run_agreeable : Agreeable L e lost b → (i : ℕ) → i < e → Balanced (code L) (at a e i)
  run_agreeable g i li =
      subst (λ (s : List ℕ). Balanced (code L) (at s e i)) run.last
      ((sound_exactly (code L) lost plan k pl.right (λ u. at (run.state u) e i) (run_at i li) (layout_within L F) pl.complete).1
      (subst (λ (s : List ℕ). bytewise.Agreeable (code L) lost (at s e i)) (sym run.first)
      (record { stripe = at g.stripe e i; sound = sound_balanced L F (at g.stripe e i) (g.sound.each i li); agree = g.agree i li })))

  -- so where a line does not, none agrees; and once the lost places are zero the buffer is cleared
  pub run_cleared : (c : List ℕ) (t : ℕ) → t < L.r + L.n → (((i : ℕ) → i < e → sum (at a e i) (line L t) ≡ 0) → ⊥) → Kept L e lost a c
      → ((p i : ℕ) → p < places L → i < e → lost ((code L).strip p) ≡ true → at c e i p ≡ 0) → Cleared L e lost b c
  run_cleared c t lt bad kept z =
      record { kept = kept_trans L e lost b a c run_kept kept; zero = z; none = λ g. bad (λ i li. (run_agreeable g i li).zero t lt) }
