-- Laws of ruin: one strip filled with FF is ruined; after two strips both are ruined; a mask of at most two is its first and its last. Assumes nothing.
use Rattle.std.specs.Prelude.{◌≡◌, ◌⊎◌, Bool, false, List, ℕ, ◌<◌}
use Rattle.std.proofs.Common.{sym, ap, ◌∙◌, inl, inr, ⊎_elim}
use Rattle.std.proofs.Math.Decide.{ℕ_discrete}
use Rattle.code.specs.SumLaws.{clash}
use Rattle.code.specs.Place.{at, strip_of}
use Rattle.code.specs.Layout.{Layout, height, places, pair}
use Rattle.code.specs.LayoutLaws.{pair_no, pair_yes, pair_kept, pair_left}
use Rattle.rebuild.specs.Clear.{FillsStrip}
use Rattle.rebuild.proofs.RebuildLaws.{kept_refl}
use Rattle.stripebench.specs.Ruin.{Ruins}

module _ (L : Layout) (e : ℕ) where
  -- a strip alone is the pair of it with itself
  pub strip_ruins : (j : ℕ) (s u : List ℕ) → FillsStrip L e j 255 s u → Ruins L e (pair j j) s u
  strip_ruins j s u f =
      record {
        kept = record {
          size = f.size;
          survivors = λ k lk. record { survivors = λ p lp o. sym (f.kept p k lk (pair_kept j j (strip_of (height L) p) o).0) };
        };
        ruined = λ p k lp lk o. f.filled p k lp lk (⊎_elim (λ q. q) (λ q. q) (pair_yes j j (strip_of (height L) p) o));
      }

  -- no strip
  pub ruins_none : (lost : ℕ → Bool) → ((j : ℕ) → lost j ≡ false) → (s : List ℕ) → Ruins L e lost s s
  ruins_none lost none s = record { kept = kept_refl L e lost s; ruined = λ p k lp lk o. clash (sym (none (strip_of (height L) p)) ∙ o) }

  -- a, and then b
  pub ruins_both : (a b : ℕ) (lost : ℕ → Bool) → ((j : ℕ) → lost j ≡ pair a b j) → (s t u : List ℕ) → Ruins L e (pair a a) s t → Ruins L e (pair b b) t u → Ruins L e lost s u
  ruins_both a b lost same s t u x y =
      record {
        kept = record {
          size = y.kept.size ∙ x.kept.size;
          survivors = λ k lk. record { survivors = λ p lp o. kept_both p k lp lk (pair_kept a b (strip_of (height L) p) (sym (same (strip_of (height L) p)) ∙ o)) };
        };
        ruined = λ p k lp lk o. go p k lp lk (ℕ_discrete (strip_of (height L) p) b) (pair_yes a b (strip_of (height L) p) (sym (same (strip_of (height L) p)) ∙ o));
      }
    where
      kept_both : (p k : ℕ) → p < places L → k < e → (strip_of (height L) p ≡ a → ⊥) × (strip_of (height L) p ≡ b → ⊥) → at s e k p ≡ at u e k p
      kept_both p k lp lk ne =
          (x.kept.survivors k lk).survivors p lp (pair_no a a (strip_of (height L) p) ne.0 ne.0)
          ∙ (y.kept.survivors k lk).survivors p lp (pair_no b b (strip_of (height L) p) ne.1 ne.1)

      go : (p k : ℕ) → p < places L → k < e → Dec (strip_of (height L) p ≡ b) → (strip_of (height L) p ≡ a) ⊎ (strip_of (height L) p ≡ b) → at u e k p ≡ 255
      go p k lp lk (yes q) w = y.ruined p k lp lk (ap (pair b b) q ∙ pair_left b b)
      go p k lp lk (no ne) (inl q) =
          sym ((y.kept.survivors k lk).survivors p lp (pair_no b b (strip_of (height L) p) ne ne))
          ∙ x.ruined p k lp lk (ap (pair a a) q ∙ pair_left a a)
      go p k lp lk (no ne) (inr q) = absurd (ne q)
