-- Laws of a set of lost strips: its count, its first and its last; at most two of them are a pair. Assumes nothing.
use Rattle.std.specs.Prelude.{◌≡◌, refl, Bool, true, false, ℕ, ◌≤◌, ◌<◌}
use Rattle.std.proofs.Common.{ap, ◌∙◌, arith, eq-eqb, ne_eqb}
use Rattle.std.proofs.Math.Decide.{ℕ_discrete, dec_lt}
use Rattle.code.specs.Below.{count}
use Rattle.code.specs.CountLaws.{count_hit}
use Rattle.code.specs.Layout.{pair}
use Rattle.shape.specs.Mask.{FirstLost, LastLost}

module _ (lost : ℕ → Bool) where
  module _ (a b : ℕ) (f : FirstLost lost a) (g : LastLost lost b) where
    -- the last is not before the first
    pub first_last : a ≤ b
    first_last = go (dec_lt b a)
      where
        go : Dec (b < a) → a ≤ b
        go (yes l) = let z : ◌≡◌ {A = ℕ} 0 1 = cc (f.lower b l, g.is_lost) in omega arith
        go (no l) = omega arith

    -- at most two lost strips are the first and the last
    pub pair_lost : count 64 lost ≤ 2 → (j : ℕ) → lost j ≡ pair a b j
    pair_lost most j = go (ℕ_discrete j a) (ℕ_discrete j b)
      where
        between : a < j → j < b → (t : Bool) → lost j ≡ t → t ≡ false
        between l h true e =
            absurd
            (omega (arith, count_hit lost a j l f.is_lost, count_hit lost j b h e, count_hit lost b 64 g.within g.is_lost))
        between l h false e = refl

        other : (j ≡ a → ⊥) → (j ≡ b → ⊥) → Dec (j < a) → Dec (b < j) → lost j ≡ false
        other x y (yes l) h = f.lower j l
        other x y (no l) (yes h) = g.upper j h
        other x y (no l) (no h) = between (omega arith) (omega arith) (lost j) refl

        go : Dec (j ≡ a) → Dec (j ≡ b) → lost j ≡ pair a b j
        go (yes x) y = ap lost x ∙ f.is_lost ∙ simp (eq-eqb j a x)
        go (no x) (yes y) = ap lost y ∙ g.is_lost ∙ simp (ne_eqb j a x, eq-eqb j b y)
        go (no x) (no y) = other x y (dec_lt j a) (dec_lt b j) ∙ simp (ne_eqb j a x, ne_eqb j b y)
