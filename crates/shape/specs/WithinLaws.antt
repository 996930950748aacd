-- Laws of within's contract: how it is met, what a shape and a refusal say, and that the answer is determined. Assumes nothing.
use Rattle.std.specs.Prelude.{◌≡◌, refl, ℕ, ◌≤◌, Result, Ok, Err}
use Rattle.std.specs.Coded.{le_prop}
use Rattle.std.proofs.Common.{sym, ap, ◌∙◌, subst, arith}
use Rattle.shape.specs.declared.shapes.Shape.{Shape}
use Rattle.shape.specs.declared.refusal.Refusal.{Refusal}
use Rattle.shape.specs.Refusal.{number_of, refusal_some, number_determined}
use Rattle.shape.specs.Limits.{Limits, limit_number}
use Rattle.shape.specs.Shape.{ShapeOf}
use Rattle.shape.specs.Within.{limited_number, Within}
use Rattle.shape.specs.LimitsLaws.{broken_number}

-- there is one shape of four numbers
pub shape_same : (n r s e : ℕ) (h g : Shape) → ShapeOf n r s e h → ShapeOf n r s e g → h ≡ g
shape_same n r s e h g u v =
    subst (λ (a : ℕ). At a h.r h.s h.e) (v.strips ∙ sym u.strips)
    (subst (λ (b : ℕ). At g.n b h.s h.e) (v.rows ∙ sym u.rows)
    (subst (λ (c : ℕ). At g.n g.r c h.e) (v.shift ∙ sym u.shift)
    (subst (λ (d : ℕ). At g.n g.r g.s d) (v.element ∙ sym u.element) here)))
    h.limits
  where
    At : ℕ → ℕ → ℕ → ℕ → Type 0
    At a b c d = (l : Limits a b c d) → record { n = a; r = b; s = c; e = d; limits = l } ≡ g

    limits_prop : IsProp (Limits g.n g.r g.s g.e)
    limits_prop = hlevel le_prop

    here : At g.n g.r g.s g.e
    here l = ap (λ (k : Limits g.n g.r g.s g.e). record { n = g.n; r = g.r; s = g.s; e = g.e; limits = k }) (limits_prop l g.limits)

carry : (P : ℕ → ℕ → ℕ → ℕ → Type 0) {a b c d x y z w : ℕ} → a ≡ x → b ≡ y → c ≡ z → d ≡ w → P a b c d → P x y z w
carry P {a} {b} {c} {d} {x} {y} {z} {w} e f g h p =
    subst (λ (v : ℕ). P x y z v) h (subst (λ (v : ℕ). P x y v d) g (subst (λ (v : ℕ). P x v c d) f (subst (λ (v : ℕ). P v b c d) e p)))

-- a shape is that of its own numbers
pub shape_itself : (h : Shape) → ShapeOf h.n h.r h.s h.e h
shape_itself h = record { strips = refl; rows = refl; shift = refl; element = refl }

-- what holds of a shape's numbers holds of the four that it is of, and back
module _ (n r s e : ℕ) (h : Shape) (w : ShapeOf n r s e h) (P : ℕ → ℕ → ℕ → ℕ → Type 0) where
  pub of_shape : P h.n h.r h.s h.e → P n r s e
  of_shape p = carry P w.strips w.rows w.shift w.element p

  pub to_numbers : P n r s e → P h.n h.r h.s h.e
  to_numbers p = carry P (sym w.strips) (sym w.rows) (sym w.shift) (sym w.element) p

module _ (n r s e : ℕ) where
  -- the answers that meet it
  pub within_refused : (x : Refusal) → limit_number n r s e 0 ≡ number_of x → Within n r s e (Err x)
  within_refused x q = record { number = sym q; shape = λ h z. cc }

  pub within_inside : (h : Shape) → ShapeOf n r s e h → limit_number n r s e 0 ≡ 0 → Within n r s e (Ok h)
  within_inside h w q = record { number = sym q; shape = λ g z. subst (λ (y : Shape). ShapeOf n r s e y) (it g z) w }
    where
      it : (g : Shape) → ◌≡◌ {A = Result Shape Refusal} (Ok h) (Ok g) → h ≡ g
      it g z = cc

  module _ (x : Result Shape Refusal) (w : Within n r s e x) where
    -- a refusal is one of 1 to 4, whatever the rest is
    pub refused_number : (y : Refusal) → x ≡ Err y → (rest : ℕ) → (limit_number n r s e rest ≡ number_of y) × (number_of y ≤ 4)
    refused_number y q rest =
        let m : limit_number n r s e 0 ≡ number_of y = sym w.number ∙ ap limited_number q in
        let b = broken_number n r s e rest (subst (λ (k : ℕ). 1 ≤ k) (sym m) (refusal_some y)) in
        (b.0 ∙ m, subst (λ (k : ℕ). k ≤ 4) m b.1)

  -- two answers that meet it are the same
  pub within_determined : (x y : Result Shape Refusal) → Within n r s e x → Within n r s e y → x ≡ y
  within_determined (Ok h) (Ok g) a b = ap Ok (shape_same n r s e h g (a.shape h refl) (b.shape g refl))
  within_determined (Ok h) (Err y) a b = let z = refusal_some y in absurd (omega (arith, a.number, b.number))
  within_determined (Err x) (Ok g) a b = let z = refusal_some x in absurd (omega (arith, a.number, b.number))
  within_determined (Err x) (Err y) a b =
      let m = (refused_number (Err x) a x refl 0).1 in
      ap Err (number_determined x y (λ z. omega arith) (a.number ∙ sym b.number))
