-- The numbers that come back, and the pair that comes with a weak shape. Assumes nothing.
-- number_of x == the number of the refusal x    pair_of x == the pair that comes with it, if any    lower_of x, upper_of x == that pair; 0 and 0
-- where none does
use Rattle.std.specs.Prelude.{◌≡◌, refl, ◌∷◌, [], ℕ, ◌-◌, ◌≤◌, get_or, Option, Some, None, unwrap_or}
use Rattle.std.proofs.Common.{ap, ◌∙◌, lit≤}
use Rattle.shape.specs.declared.refusal.Refusal.{Refusal}
use Rattle.shape.specs.declared.refusal.Refusal.TheVariants.{Strips, Rows, Shift, Element, Weak, Length, Mask, Many, Place, NoSound}

-- a refusal's number and its pair
abbrev pub values : Refusal → ℕ × Option (ℕ × ℕ)
-- n outside 3..32
values Strips = (1, None)
-- r outside 1..32
values Rows = (2, None)
-- s outside 1..n-1
values Shift = (3, None)
-- e outside 1..4096
values Element = (4, None)
-- weak shape; the pair comes with it
values (Weak a b) = (5, Some (a, b))
-- buffer length differs from the stripe's size
values Length = (6, None)
-- mask has a one above bit n
values Mask = (7, None)
-- more than two strips lost
values Many = (8, None)
-- place outside: row not below r, strip not below n, or offset plus length above e
values Place = (9, None)
-- the survivors agree with no sound stripe
values NoSound = (10, None)

abbrev pub number_of : Refusal → ℕ
number_of x = (values x).0

abbrev pub pair_of : Refusal → Option (ℕ × ℕ)
pair_of x = (values x).1

abbrev pub lower_of : Refusal → ℕ
lower_of x = (unwrap_or (pair_of x) (0, 0)).0

abbrev pub upper_of : Refusal → ℕ
upper_of x = (unwrap_or (pair_of x) (0, 0)).1

-- the refusal of a number and a pair
refusal_at : ℕ → ℕ → ℕ → Refusal
refusal_at k a b = get_or (Strips ∷ Rows ∷ Shift ∷ Element ∷ Weak a b ∷ Length ∷ Mask ∷ Many ∷ Place ∷ []) (k - 1) NoSound

-- a refusal by its values: they give it back, its number is among 1 to 10, and only number 5 brings a pair
record Valued (x : Refusal) : Type 0 where
  back : refusal_at (number_of x) (lower_of x) (upper_of x) ≡ x
  some : 1 ≤ number_of x
  most : number_of x ≤ 10
  alone : (number_of x ≡ 5 → ⊥) → (lower_of x ≡ 0) × (upper_of x ≡ 0)

valued : (x : Refusal) → Valued x
unfolding refusal_at
valued Strips = record { back = refl; some = lit≤ tt; most = lit≤ tt; alone = λ ne. (refl, refl) }
valued Rows = record { back = refl; some = lit≤ tt; most = lit≤ tt; alone = λ ne. (refl, refl) }
valued Shift = record { back = refl; some = lit≤ tt; most = lit≤ tt; alone = λ ne. (refl, refl) }
valued Element = record { back = refl; some = lit≤ tt; most = lit≤ tt; alone = λ ne. (refl, refl) }
valued (Weak a b) = record { back = refl; some = lit≤ tt; most = lit≤ tt; alone = λ ne. absurd (ne refl) }
valued Length = record { back = refl; some = lit≤ tt; most = lit≤ tt; alone = λ ne. (refl, refl) }
valued Mask = record { back = refl; some = lit≤ tt; most = lit≤ tt; alone = λ ne. (refl, refl) }
valued Many = record { back = refl; some = lit≤ tt; most = lit≤ tt; alone = λ ne. (refl, refl) }
valued Place = record { back = refl; some = lit≤ tt; most = lit≤ tt; alone = λ ne. (refl, refl) }
valued NoSound = record { back = refl; some = lit≤ tt; most = lit≤ tt; alone = λ ne. (refl, refl) }

-- no refusal has the number of a call that is done
pub refusal_some : (x : Refusal) → 1 ≤ number_of x
refusal_some x = (valued x).some

pub refusal_most : (x : Refusal) → number_of x ≤ 10
refusal_most x = (valued x).most

-- only a weak shape brings a pair
pub unpaired : (x : Refusal) → (number_of x ≡ 5 → ⊥) → (lower_of x ≡ 0) × (upper_of x ≡ 0)
unpaired x ne = (valued x).alone ne

-- the number and the pair determine the refusal
pub refusal_determined : (x y : Refusal) → number_of x ≡ number_of y → lower_of x ≡ lower_of y → upper_of x ≡ upper_of y → x ≡ y
refusal_determined x y e a b = cc ((valued x).back, (valued y).back)

-- and where the number is not 5, the number alone does
pub number_determined : (x y : Refusal) → (number_of x ≡ 5 → ⊥) → number_of x ≡ number_of y → x ≡ y
number_determined x y ne e =
    let a = (valued x).alone ne in
    let b = (valued y).alone (λ z. ne (e ∙ z)) in
    refusal_determined x y e (cc) (cc)

-- number 5 is a weak shape with its pair
pub weak_of : (x : Refusal) → number_of x ≡ 5 → x ≡ Weak (lower_of x) (upper_of x)
unfolding refusal_at
weak_of x e = cc ((valued x).back, ap (λ (k : ℕ). refusal_at k (lower_of x) (upper_of x)) e)
