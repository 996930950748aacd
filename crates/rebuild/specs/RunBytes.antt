-- Bytes stay bytes: what a right step puts at its target is a sum of bytes, so a run takes a stripe to a stripe. Assumes nothing.
use Rattle.std.specs.Prelude.{◌≡◌, refl, ◌≢◌, Bool, List, ℕ, zero, suc, ◌+◌, ◌*◌, ◌/◌, ◌%◌, ◌≤◌, ◌<◌, eqb, length, get_or}
use Rattle.std.proofs.Common.{sym, ap, ◌∙◌, subst, zero-mul, mod-lt, mul_comm, div-add-mod', div-lt_iff_lt-mul, arith, eq-eqb, ne_eqb}
use Rattle.std.proofs.Math.Decide.{ℕ_discrete}
use Rattle.code.specs.Xor.{◌⊕◌, ⊕_eq, zero_⊕}
use Rattle.code.specs.Sum.{sum, sum_to, pick}
use Rattle.code.specs.SumLaws.{sum_to_byte, sum_to_change, sum_index}
use Rattle.code.specs.Code.{Code, Within, Bytes}
use Rattle.code.specs.Place.{at, inside}
use Rattle.code.specs.Plan.{Step, Built, Gives, Right}
use Rattle.code.specs.Run.{Ran, given_other}
use Rattle.code.specs.Layout.{Layout, Fair, places, code}
use Rattle.code.specs.LayoutLaws.{layout_within}
use Rattle.code.specs.Sound.{Stripe}
use Rattle.rebuild.specs.WholePlan.{Planned}
use Rattle.rebuild.specs.RunTo.{RunTo}

-- ---- one byte of every element

-- where a line sums to zero and all its places but one hold bytes, that one does
last_byte : (ps : List ℕ) (g : ℕ → ℕ) (u : ℕ) → u < length ps → sum g ps ≡ 0 → ((v : ℕ) → v < length ps → v ≢ u → g (get_or ps v 0) < 256)
    → g (get_or ps u 0) < 256
last_byte ps g u lu z small = subst (λ (x : ℕ). x < 256) is (sum_to_byte (length ps) others (λ v lv. byte v lv (ℕ_discrete v u)))
  where
    others : ℕ → ℕ
    others v = pick (eqb v u) 0 (g (get_or ps v 0))

    here : others u ≡ 0
    here = ap (λ (t : Bool). pick t 0 (g (get_or ps u 0))) (eq-eqb u u refl)

    there : (v : ℕ) → v ≢ u → others v ≡ g (get_or ps v 0)
    there v ne = ap (λ (t : Bool). pick t 0 (g (get_or ps v 0))) (ne_eqb v u ne)

    byte : (v : ℕ) → v < length ps → Dec (v ≡ u) → others v < 256
    byte v lv (yes q) = subst (λ (x : ℕ). x < 256) (sym (ap others q ∙ here)) (omega arith)
    byte v lv (no ne) = subst (λ (x : ℕ). x < 256) (sym (there v ne)) (small v lv ne)

    is : sum_to (length ps) others ≡ g (get_or ps u 0)
    is =
        ⊕_eq (sum_to (length ps) others) (g (get_or ps u 0))
        (sym (sum_to_change (length ps) others (λ v. g (get_or ps v 0)) (g (get_or ps u 0)) u lu
        (sym (ap (λ (x : ℕ). x ⊕ g (get_or ps u 0)) here ∙ zero_⊕ (g (get_or ps u 0)))) (λ v lv ne. sym (there v ne)))
        ∙ sym (sum_index g ps) ∙ z)

module _ (C : Code) (w : Within C) (lost : ℕ → Bool) (plan : ℕ → Step) (k : ℕ) (right : Right C lost plan k) where
  ran_bytes : (u : ℕ) → u < k → (f g : ℕ → ℕ) → Ran (C.line (plan u).line) (plan u).target f g → Bytes C f → Bytes C g
  ran_bytes u lu f g y small = record { small = λ p lp. go p lp (ℕ_discrete p (plan u).target) (right.step u lu) }
    where
      kept : (p : ℕ) → p < C.places → p ≢ (plan u).target → g p < 256
      kept p lp ne = subst (λ (x : ℕ). x < 256) (sym (y.others p ne)) (small.small p lp)

      go : (p : ℕ) → p < C.places → Dec (p ≡ (plan u).target) → Gives C lost (Built plan u) (plan u).line (plan u).target → g p < 256
      go p lp (no ne) x = kept p lp ne
      go p lp (yes q) x =
          subst (λ (z : ℕ). g z < 256) (x.on ∙ sym q)
          (last_byte (C.line (plan u).line) g x.index x.within y.balanced
          (λ v lv ne. kept (get_or (C.line (plan u).line) v 0) (w.below (plan u).line v x.is_line lv)
          (given_other C lost plan k right u lu (get_or (C.line (plan u).line) v 0) (x.rest v lv ne))))

-- ---- whole stripes

module _ (L : Layout) (e : ℕ) (s : List ℕ) where
  -- a stripe is bytes at every place
  pub stripe_bytes : Stripe L e s → (i : ℕ) → i < e → Bytes (code L) (at s e i)
  stripe_bytes x i li = record { small = λ p lp. x.bytes (p * e + i) (omega (arith, x.size, inside e p (places L) lp)) }

  pub bytes_stripe : length s ≡ e * places L → ((i : ℕ) → i < e → Bytes (code L) (at s e i)) → Stripe L e s
  bytes_stripe size h = record { size = size; bytes = λ x lx. go x (omega (arith, size)) }
    where
      some : (d : ℕ) → (x : ℕ) → x < d * places L → 0 < d
      some zero x l = absurd (omega (arith, zero-mul (places L)))
      some (suc d) x l = omega arith

      go : (x : ℕ) → x < e * places L → get_or s x 0 < 256
      go x lx =
          let p : x / e < places L = (div-lt_iff_lt-mul (some e x lx)).1 (omega (arith, mul_comm e (places L))) in
          subst (λ (z : ℕ). get_or s z 0 < 256) (div-add-mod' x e) ((h (x % e) (mod-lt x (some e x lx))).small (x / e) p)

-- a run takes a stripe to a stripe
module _ (L : Layout) (F : Fair L) (e : ℕ) (lost : ℕ → Bool) (plan : ℕ → Step) (k : ℕ) (pl : Planned L lost plan k)
    (b a : List ℕ) (run : RunTo L e plan k b a) where
  states : Stripe L e b → (u : ℕ) → u ≤ k → Stripe L e (run.state u)
  states x zero l = subst (Stripe L e) (sym run.first) x
  states x (suc u) l = go (states x u (omega arith))
    where
      go : Stripe L e (run.state u) → Stripe L e (run.state (suc u))
      go y =
          bytes_stripe L e (run.state (suc u)) ((run.each u (omega arith)).size ∙ y.size)
          (λ i li. ran_bytes (code L) (layout_within L F) lost plan k pl.right u (omega arith) (at (run.state u) e i) (at (run.state (suc u)) e i)
          ((run.each u (omega arith)).each i li) (stripe_bytes L e (run.state u) y i li))

  pub run_stripe : Stripe L e b → Stripe L e a
  run_stripe x = subst (Stripe L e) run.last (states x k (omega arith))
