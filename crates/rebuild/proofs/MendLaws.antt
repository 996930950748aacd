-- How mend meets its contract: two strips cleared are a pair cleared, a pair is the lost set of its mask, and where nothing is lost nothing
-- changes. And that contract leaves nothing open. Assumes nothing.
use Rattle.std.specs.Prelude.{ℕ, ◌<◌, ◌≡◌, refl, ◌⊎◌, Bool, true, false, List, length, get_or, Ok, Err}
use Rattle.std.proofs.Common.{sym, ◌∙◌, inl, inr}
use Rattle.std.proofs.Math.Decide.{ℕ_discrete}
use Rattle.code.specs.Place.{strip_of, at}
use Rattle.code.specs.Layout.{Layout, Fair, height, places, pair}
use Rattle.code.specs.LayoutLaws.{pair_yes, pair_kept}
use Rattle.code.specs.SumLaws.{clash}
use Rattle.code.specs.Sound.{Stripe}
use Rattle.code.specs.Shift.{shift}
use Rattle.shape.specs.declared.refusal.Refusal.TheVariants.{NoSound}
use Rattle.shape.specs.Mask.{lost_in}
use Rattle.rebuild.specs.Rebuild.{Kept, Agreeable, is_mended, is_cleared}
use Rattle.rebuild.specs.RebuildNumber.{Accepted}
use Rattle.rebuild.proofs.RebuildLaws.{kept_refl, mended_agreeable, ended_same}
use Rattle.rebuild.specs.Clear.{Clears}
use Rattle.rebuild.specs.Testing.{Tests}
use Rattle.rebuild.specs.PlanRun.{Mends}
use Rattle.rebuild.proofs.PlanRunLaws.{no_run, ran_mended, ran_cleared}

module _ (L : Layout) (e a b : ℕ) (s t u : List ℕ) (x : Clears L e a s t) (y : Clears L e b t u) where
  -- strip a, then strip b cleared: the survivors stay
  pub both_kept : Kept L e (pair a b) s u
  both_kept =
      record {
        size = y.size ∙ x.size;
        survivors = λ k lk. record {
          survivors = λ p lp z.
              let ne = pair_kept a b (strip_of (height L) p) z in
              sym (y.kept p k lk ne.1 ∙ x.kept p k lk ne.0);
        };
      }

  -- and the two are zero
  pub both_zero : (p k : ℕ) → p < places L → k < e → pair a b (strip_of (height L) p) ≡ true → at u e k p ≡ 0
  both_zero p k lp lk z = go (ℕ_discrete (strip_of (height L) p) b) (pair_yes a b (strip_of (height L) p) z)
    where
      go : Dec (strip_of (height L) p ≡ b) → (strip_of (height L) p ≡ a) ⊎ (strip_of (height L) p ≡ b) → at u e k p ≡ 0
      go (yes q) w = y.filled p k lp lk q
      go (no ne) (inl q) = y.kept p k lk ne ∙ x.filled p k lp lk q
      go (no ne) (inr q) = absurd (ne q)

-- ---- one name of the lost set and another

module _ (L : Layout) (e : ℕ) (lost same : ℕ → Bool) (eq : (j : ℕ) → lost j ≡ same j) where
  kept_lost : (s t : List ℕ) → Kept L e lost s t → Kept L e same s t
  kept_lost s t x =
      record { size = x.size; survivors = λ k lk. record { survivors = λ p lp z. (x.survivors k lk).survivors p lp (eq (strip_of (height L) p) ∙ z) } }

  agreeable_lost : (s : List ℕ) → Agreeable L e same s → Agreeable L e lost s
  agreeable_lost s x =
      record { stripe = x.stripe; sound = x.sound; agree = λ k lk. record { survivors = λ p lp z. (x.agree k lk).survivors p lp (sym (eq (strip_of (height L) p)) ∙ z) } }

  pub mends_lost : (s t : List ℕ) (x : Bool) → Mends L e lost s t x → Mends L e same s t x
  mends_lost s t x m =
      record {
        mended = λ z. record { kept = kept_lost s t (m.mended z).kept; sound = (m.mended z).sound };
        cleared = λ z. record {
          kept = kept_lost s t (m.cleared z).kept;
          zero = λ p k lp lk y. (m.cleared z).zero p k lp lk (eq (strip_of (height L) p) ∙ y);
          none = λ a. (m.cleared z).none (agreeable_lost s a);
        };
      }

-- ---- where nothing is lost

pub mends_none : (L : Layout) → Fair L → (e : ℕ) (lost : ℕ → Bool) → ((j : ℕ) → lost j ≡ false) → (s : List ℕ) (used : List Bool) → Stripe L e s → ((t : ℕ) → get_or used t false ≡ false)
    → (x : Bool) → Tests L e used s x → Mends L e lost s s x
mends_none L F e lost none s used bytes clean x y =
    record {
      mended = λ z. ran_mended L F e lost s s used (no_run L e lost none s used clean) bytes (y.passed z);
      cleared = λ z.
          let f = y.failed z in
          ran_cleared L F e lost s s used (no_run L e lost none s used clean) f.t f.byte f.is_line f.in_element f.wrong s (kept_refl L e lost s)
          (λ p i lp li o. clash (sym (none (strip_of (height L) p)) ∙ o));
    }

-- ---- what is left open

-- nothing: on what mend requires, the answer and every byte are determined
pub mends_determined : (n r s e mask : ℕ) (b a c : List ℕ) (x y : Bool) → Accepted n r s e (length b) mask
    → Mends (shift n r s) e (lost_in mask) b a x → Mends (shift n r s) e (lost_in mask) b c y → (x ≡ y) × (a ≡ c)
mends_determined n r s e mask b a c true true k p q =
    (refl, (ended_same n r s e mask b k a c (Ok tt) (Ok tt) (is_mended (p.mended refl)) (is_mended (q.mended refl))).1)
mends_determined n r s e mask b a c true false k p q = absurd ((q.cleared refl).none (mended_agreeable (shift n r s) e (lost_in mask) b a (p.mended refl)))
mends_determined n r s e mask b a c false true k p q = absurd ((p.cleared refl).none (mended_agreeable (shift n r s) e (lost_in mask) b c (q.mended refl)))
mends_determined n r s e mask b a c false false k p q =
    (refl, (ended_same n r s e mask b k a c (Err NoSound) (Err NoSound) (is_cleared (p.cleared refl)) (is_cleared (q.cleared refl))).1)
