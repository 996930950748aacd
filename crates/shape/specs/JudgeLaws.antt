-- How judge's contract is met, and that it determines the answer. Assumes nothing.
use Rattle.std.specs.Prelude.{◌≡◌, refl, Bool, ℕ, ◌+◌, ◌*◌, ◌≤◌, Result, Ok, Err}
use Rattle.std.proofs.Common.{sym, ap, ◌∙◌, subst, arith}
use Rattle.code.specs.Sum.{pick}
use Rattle.code.specs.Layout.{pair}
use Rattle.code.specs.Shift.{shift}
use Rattle.code.specs.Bound.{FirstPair}
use Rattle.code.specs.Bound as bound
use Rattle.code.specs.CodeLaws.{not_both}
use Rattle.code.proofs.Exact.{exact}
use Rattle.shape.specs.declared.shapes.Shape.{Shape}
use Rattle.shape.specs.declared.refusal.Refusal.{Refusal}
use Rattle.shape.specs.declared.refusal.Refusal.TheVariants.{Weak}
use Rattle.shape.specs.Refusal.{number_of, refusal_some}
use Rattle.shape.specs.Call.{Named}
use Rattle.shape.specs.CallLaws.{named_same}
use Rattle.shape.specs.Limits.{Limits}
use Rattle.shape.specs.Shape.{ShapeOf}
use Rattle.shape.specs.Within.{Within}
use Rattle.shape.specs.LimitsLaws.{limits_number}
use Rattle.shape.specs.WithinLaws.{refused_number, shape_same, of_shape}
use Rattle.shape.specs.GoodTest.{good_test, good_tested, weak_tested}
use Rattle.shape.specs.Judge.{shape_number, Judged, judged_number, Judges}
use Rattle.shape.specs.Pairs.{NoPair}

-- an answer is not both
pub good_refused : {A : Type 0} (h : Shape) (b : ℕ) (x : Refusal) → ◌≡◌ {A = Judged} (Ok (h, b)) (Err x) → A
good_refused h b x z = absurd (let q : ◌≡◌ {A = ℕ} 0 1 = cc in omega arith)

module _ (n r s e : ℕ) where
  -- ---- how it is met

  pub judges_refused : (y : Result Shape Refusal) → Within n r s e y → (x : Refusal) → y ≡ Err x → Judges n r s e (Err x)
  judges_refused y w x q =
      let m = refused_number n r s e y w x q (pick (good_test n r s) 0 5) in
      record { number = sym m.0; good = λ h b z. good_refused h b x (sym z); weak = λ a b z. absurd (low (ap judged_number z) m.1) }
    where
      low : number_of x ≡ 5 → number_of x ≤ 4 → ⊥
      low k l = omega arith

  module _ (l : Limits n r s e) where
    pub number_good : bound.Good n r s → shape_number n r s e ≡ 0
    number_good g = limits_number n r s e (pick (good_test n r s) 0 5) l ∙ ap (λ (t : Bool). pick t 0 5) (good_tested n r s g)

    pub number_weak : (bound.Good n r s → ⊥) → shape_number n r s e ≡ 5
    number_weak f = limits_number n r s e (pick (good_test n r s) 0 5) l ∙ ap (λ (t : Bool). pick t 0 5) (weak_tested n r s f)

    pub judges_good : (h : Shape) → ShapeOf n r s e h → bound.Good n r s → (b : ℕ) → b ≡ e * (n * (r + 1) + r) → Judges n r s e (Ok (h, b))
    judges_good h w g b q =
        record {
          number = sym (number_good g);
          good = λ k c z. let p : ◌≡◌ {A = Shape × ℕ} (h, b) (k, c) = cc in
              (subst (λ (y : Shape). ShapeOf n r s e y) (ap (λ (y : Shape × ℕ). y.0) p) w, sym (ap (λ (y : Shape × ℕ). y.1) p) ∙ q);
          weak = λ a c z. good_refused h b (Weak a c) z;
        }

    pub judges_weak : (a b : ℕ) → FirstPair (shift n r s) a b → Judges n r s e (Err (Weak a b))
    judges_weak a b p =
        record {
          number = sym (number_weak (λ g. (exact n r s l.s_low l.s_high).0 g a b p.order p.within p.fails));
          good = λ h c z. good_refused h c (Weak a b) (sym z);
          weak = λ c d z. subst (λ (v : ℕ). FirstPair (shift n r s) c v) (upper c d z) (subst (λ (v : ℕ). FirstPair (shift n r s) v b) (lower c d z) p);
        }
      where
        lower : (c d : ℕ) → ◌≡◌ {A = Judged} (Err (Weak a b)) (Err (Weak c d)) → a ≡ c
        lower c d z = cc

        upper : (c d : ℕ) → ◌≡◌ {A = Judged} (Err (Weak a b)) (Err (Weak c d)) → b ≡ d
        upper c d z = cc

    -- where no pair fails the shape is good
    pub no_pair_good : NoPair (shift n r s) → bound.Good n r s
    no_pair_good x = (exact n r s l.s_low l.s_high).1 (λ a b la lb f. not_both _ (pair a b) (x.decided a b la lb) f)

  -- a shape that within let through is that of the four numbers
  pub judges_inside : (y : Result Shape Refusal) → Within n r s e y → (h : Shape) → y ≡ Ok h → (x : Judged) → Judges h.n h.r h.s h.e x → Judges n r s e x
  judges_inside y w h q x j = of_shape n r s e h (w.shape h q) (λ n r s e. Judges n r s e x) j

  -- ---- it determines the answer

  pub judge_determined : (x y : Judged) → Judges n r s e x → Judges n r s e y → x ≡ y
  judge_determined (Ok (h, b)) (Ok (g, c)) p q =
      let u = p.good h b refl in
      let v = q.good g c refl in
      let w : h ≡ g = shape_same n r s e h g u.0 v.0 in
      cc
  judge_determined (Ok h) (Err y) p q = let z = refusal_some y in absurd (omega (arith, p.number, q.number))
  judge_determined (Err x) (Ok g) p q = let z = refusal_some x in absurd (omega (arith, p.number, q.number))
  judge_determined (Err x) (Err y) p q = ap Err (named_same n r s x y (p.number ∙ sym q.number) (named x p) (named y q))
    where
      named : (z : Refusal) → Judges n r s e (Err z) → Named n r s z
      named z j = record { pair = λ a b w. j.weak a b (ap Err w) }
