-- Laws of read: the part lies inside the stripe and has e bytes; it is empty exactly when read is refused. Assumes nothing.
use Rattle.std.specs.Prelude.{◌≡◌, ◌≢◌, ◌↔◌, Bool, List, [], ℕ, ◌+◌, ◌-◌, ◌*◌, ◌≤◌, ◌<◌, length, take, drop, Err, Ok}
use Rattle.std.proofs.Common.{sym, ap₂, ◌∙◌, arith, length-drop, length-take-le, eq-eqb, ne_eqb}
use Rattle.std.proofs.Math.Path.{ap}
use Rattle.code.specs.Sum.{pick}
use Rattle.code.specs.Place.{inside}
use Rattle.code.specs.Layout.{Layout, X, places}
use Rattle.code.specs.LayoutLaws.{X_below}
use Rattle.code.specs.Shift.{shift}
use Rattle.shape.specs.declared.refusal.Refusal.{Refusal}
use Rattle.shape.specs.Refusal.{refusal_some}
use Rattle.shape.specs.Limits.{Limits}
use Rattle.shape.specs.Call.{Answered, Answer}
use Rattle.shape.specs.CallLaws.{answered_same}
use Rattle.stripe.specs.Read.{read_number, read_part}
use Rattle.stripe.specs.WriteNumber.{number_accepted}

module _ (L : Layout) (e i j : ℕ) (b : List ℕ) where
  -- ---- the part that the code takes, at the place p

  pub part_inside : length b ≡ e * places L → (p : ℕ) → p < places L → p * e + e ≤ length b
  part_inside l p lp = omega (arith, inside e p (places L) lp)

  pub part_is : (p : ℕ) → p ≡ X L i j → take ((p * e + e) - p * e) (drop (p * e) b) ≡ take e (drop (X L i j * e) b)
  part_is p q =
      let m : (p * e + e) - p * e ≡ e = omega arith in
      ap₂ (λ (n d : ℕ). take n (drop d b)) m (ap (λ (x : ℕ). x * e) q)

  -- it has e bytes
  pub part_length : length b ≡ e * places L → i < L.r → j < L.n → length (take e (drop (X L i j * e) b)) ≡ e
  part_length l li lj =
      length-take-le e (drop (X L i j * e) b) (omega (arith, length-drop (X L i j * e) b, part_inside l (X L i j) (X_below L i j li lj)))

-- ---- the call

module _ (n r s e i j : ℕ) (b : List ℕ) where
  pub read_refused : read_number n r s e (length b) i j ≢ 0 → read_part n r s e i j b ≡ []
  unfolding read_part
  read_refused ne = ap (λ (t : Bool). pick t (take e (drop (X (shift n r s) i j * e) b)) []) (ne_eqb (read_number n r s e (length b) i j) 0 ne)

  pub read_done : read_number n r s e (length b) i j ≡ 0 → read_part n r s e i j b ≡ take e (drop (X (shift n r s) i j * e) b)
  unfolding read_part
  read_done z = ap (λ (t : Bool). pick t (take e (drop (X (shift n r s) i j * e) b)) []) (eq-eqb (read_number n r s e (length b) i j) 0 z)

  -- ---- by the answer

  -- whatever refuses the call, the part is empty
  pub reads_refused : (y : Refusal) → Answered n r s (read_number n r s e (length b) i j) (Err y) → [] ≡ read_part n r s e i j b
  reads_refused y p = sym (read_refused (λ z. let w = refusal_some y in omega (arith, p.is)))

  pub reads_done : Answered n r s (read_number n r s e (length b) i j) (Ok tt) → take e (drop (X (shift n r s) i j * e) b) ≡ read_part n r s e i j b
  reads_done p = sym (read_done (sym p.is))

  -- ---- empty means refused

  pub read_length : read_number n r s e (length b) i j ≡ 0 → length (read_part n r s e i j b) ≡ e
  read_length z =
      let y = number_accepted n r s e (length b) i j 0 0 z in
      ap length (read_done z) ∙ part_length (shift n r s) e i j b y.sized y.row y.strip

  pub read_empty : (read_part n r s e i j b ≡ []) ↔ (read_number n r s e (length b) i j ≢ 0)
  read_empty = (λ q z. some q z (number_accepted n r s e (length b) i j 0 0 z).limits, read_refused)
    where
      some : read_part n r s e i j b ≡ [] → read_number n r s e (length b) i j ≡ 0 → Limits n r s e → ⊥
      some q z l = omega (arith, ap length q, read_length z)

  -- ---- neither part nor reason is left open

  pub read_determined : (p q : List ℕ) → p ≡ read_part n r s e i j b → q ≡ read_part n r s e i j b → p ≡ q
  read_determined p q x y = x ∙ sym y

  pub read_check_determined : (x y : Answer) → Answered n r s (read_number n r s e (length b) i j) x → Answered n r s (read_number n r s e (length b) i j) y → x ≡ y
  read_check_determined x y p q = answered_same n r s (read_number n r s e (length b) i j) x y p q
