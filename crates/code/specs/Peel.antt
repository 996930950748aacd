-- PEEL: two sound stripes that agree outside the lost strips agree at the target of every step of a right plan, so a right and
-- complete plan shows that the lost set is decided and does not fail. Assumes nothing.
use Rattle.std.specs.Prelude.{ℕ, zero, suc, ◌<◌, ◌≤◌, ◌≡◌, refl, ◌≢◌, List, Bool, true, false, length, get_or}
use Rattle.std.proofs.Common.{sym, ◌∙◌, subst, arith}
use Rattle.std.proofs.Math.Decide.{ℕ_discrete}
use Rattle.code.specs.Xor.{◌⊕◌, ⊕_of_eq, ⊕_eq}
use Rattle.code.specs.Sum.{sum}
use Rattle.code.specs.SumLaws.{sum_to_add, sum_to_one, sum_index}
use Rattle.code.specs.Code.{Code, Within, Balanced, Agree, Same, Decided}
use Rattle.code.specs.Plan.{Step, Built, Given, survives, built, Gives, Right, Complete}

-- two stripes whose sums over a line are equal, and that agree on all its places but one, agree on that one
pub last_place : (ps : List ℕ) (f g : ℕ → ℕ) (u : ℕ) → u < length ps → sum f ps ≡ sum g ps
    → ((v : ℕ) → v < length ps → v ≢ u → f (get_or ps v 0) ≡ g (get_or ps v 0)) → f (get_or ps u 0) ≡ g (get_or ps u 0)
last_place ps f g u lu e same =
    ⊕_eq (f (get_or ps u 0)) (g (get_or ps u 0))
    (sym (sum_to_one (length ps) (λ v. f (get_or ps v 0) ⊕ g (get_or ps v 0)) u lu (λ v lv ne. ⊕_of_eq (f (get_or ps v 0)) (g (get_or ps v 0)) (same v lv ne)))
    ∙ sum_to_add (length ps) (λ v. f (get_or ps v 0)) (λ v. g (get_or ps v 0))
    ∙ ⊕_of_eq _ _ (sym (sum_index f ps) ∙ e ∙ sum_index g ps))

module _ (C : Code) (lost : ℕ → Bool) (plan : ℕ → Step) (k : ℕ) (w : Within C) (right : Right C lost plan k)
    (f g : ℕ → ℕ) (bf : Balanced C f) (bg : Balanced C g) (agree : Agree C lost f g) where
  given_same : (u : ℕ) → ((v : ℕ) → v < u → f (plan v).target ≡ g (plan v).target) → (p : ℕ) → p < C.places → Given C lost (Built plan u) p → f p ≡ g p
  given_same u h p lp (survives e) = agree.survivors p lp e
  given_same u h p lp (built x) = subst (λ (q : ℕ). f q ≡ g q) x.it (h x.step x.early)

  step_same : (u : ℕ) → u < k → ((v : ℕ) → v < u → f (plan v).target ≡ g (plan v).target) → f (plan u).target ≡ g (plan u).target
  step_same u lu h = go (right.step u lu)
    where
      go : Gives C lost (Built plan u) (plan u).line (plan u).target → f (plan u).target ≡ g (plan u).target
      go x =
          subst (λ (q : ℕ). f q ≡ g q) x.on
          (last_place (C.line (plan u).line) f g x.index x.within
          (bf.zero (plan u).line x.is_line ∙ sym (bg.zero (plan u).line x.is_line))
          (λ v lv ne. given_same u h (get_or (C.line (plan u).line) v 0) (w.below (plan u).line v x.is_line lv) (x.rest v lv ne)))

  targets_same : (u : ℕ) → u ≤ k → (v : ℕ) → v < u → f (plan v).target ≡ g (plan v).target
  targets_same zero l v lv = absurd (omega arith)
  targets_same (suc u) l v lv = go (targets_same u (omega arith)) (ℕ_discrete v u)
    where
      go : ((x : ℕ) → x < u → f (plan x).target ≡ g (plan x).target) → Dec (v ≡ u) → f (plan v).target ≡ g (plan v).target
      go h (yes e) = subst (λ (x : ℕ). f (plan x).target ≡ g (plan x).target) (sym e) (step_same u (omega arith) h)
      go h (no ne) = h v (omega arith)

  all_same : Complete C lost plan k → Same C f g
  all_same c = record { all = λ p lp. go p lp (lost (C.strip p)) refl }
    where
      go : (p : ℕ) → p < C.places → (t : Bool) → lost (C.strip p) ≡ t → f p ≡ g p
      go p lp false e = agree.survivors p lp e
      go p lp true e = given_same k (targets_same k (omega arith)) p lp (built (c.all p lp e))

pub peel : (C : Code) (lost : ℕ → Bool) (plan : ℕ → Step) (k : ℕ) → Within C → Right C lost plan k → Complete C lost plan k → Decided C lost
peel C lost plan k w right c = record { same = λ f g bf bg a. all_same C lost plan k w right f g bf bg a c }
