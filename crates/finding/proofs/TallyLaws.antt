-- Laws of tallies, and the loop that makes one. Assumes nothing.
use Rattle.std.specs.Prelude.{◌≡◌, refl, Bool, true, false, ◌≢◌, ◌⊎◌, ℕ, ◌+◌, ◌≤◌, ◌<◌}
use Rattle.std.proofs.Common.{sym, ◌∙◌, inl, inr, arith}
use Rattle.std.proofs.Math.Path.{ap}
use Rattle.std.proofs.Math.Decide.{ℕ_discrete}
use Rattle.std.proofs.Math.Numerals.{add-one}
use Rattle.code.specs.Sum.{only}
use Rattle.code.specs.Below.{count, first}
use Rattle.code.specs.BelowLaws.{first_same, first_at, first_or_none}
use Rattle.code.specs.CountLaws.{count_same, zero_count, count_one}
use Rattle.finding.specs.Tally.{Tallied, Tallying}

-- ---- tallies

module _ (m : ℕ) (t : ℕ → Bool) (c f : ℕ) where
  pub tallied_same : (u : ℕ → Bool) → ((k : ℕ) → k < m → t k ≡ u k) → Tallied m t c f → Tallied m u c f
  tallied_same u h p = record { many = p.many ∙ count_same m t u h; lowest = p.lowest ∙ first_same m t u h }

  -- where some hold, the first is below the end
  pub tallied_below : Tallied m t c f → 0 < c → f < m
  tallied_below p l = go (first_or_none m t)
    where
      go : (first m t < m) ⊎ ((k : ℕ) → k < m → t k ≡ false) → f < m
      go (inl h) = omega (arith, p.lowest)
      go (inr h) = absurd (omega (arith, p.many, zero_count m t h))

-- one holds, at i
pub tallied_one : (m : ℕ) (t : ℕ → Bool) (i : ℕ) → i < m → t i ≡ true → ((j : ℕ) → j < m → j ≢ i → t j ≡ false) → Tallied m t 1 i
tallied_one m t i l e h =
    record {
      many = sym (count_one m t i l e h);
      lowest = sym (first_at m t i (omega arith) (λ j lj. h j (omega arith) (λ q. omega arith)) (λ x. e));
    }

-- none holds
pub tallied_none : (m : ℕ) (t : ℕ → Bool) → ((k : ℕ) → k < m → t k ≡ false) → Tallied m t 0 (first m t)
tallied_none m t h = record { many = sym (zero_count m t h); lowest = refl }

-- ---- the loop, from the last line to the first

pub tallying_none : (m : ℕ) (t : ℕ → Bool) → Tallying m t m 0 m
tallying_none m t =
    record {
      within = omega arith;
      room = omega arith;
      rest = omega arith;
      low = omega arith;
      before = λ j l h. absurd (omega arith);
      hit = λ l. absurd (omega arith);
    }

module _ (m : ℕ) (t : ℕ → Bool) (left c f v : ℕ) (at : left ≡ v + 1) (p : Tallying m t left c f) where
  less : count left t ≡ count v t + only (t v) 1
  unfolding count
  less = ap (λ (x : ℕ). count x t) (at ∙ add-one v)

  pub tallying_yes : t v ≡ true → Tallying m t v (c + 1) v
  tallying_yes e =
      let z : count left t ≡ count v t + 1 = less ∙ ap (λ (x : Bool). count v t + only x 1) e in
      record {
        within = omega (arith, p.within);
        room = omega (arith, p.room);
        rest = omega (arith, p.rest);
        low = omega (arith, p.within);
        before = λ j l h. absurd (omega arith);
        hit = λ l. e;
      }

  pub tallying_no : t v ≡ false → Tallying m t v c f
  tallying_no e =
      let z : count left t ≡ count v t + 0 = less ∙ ap (λ (x : Bool). count v t + only x 1) e in
      record {
        within = omega (arith, p.within);
        room = omega (arith, p.room);
        rest = omega (arith, p.rest);
        low = p.low;
        before = λ j l h. go j l h (ℕ_discrete j v);
        hit = p.hit;
      }
    where
      go : (j : ℕ) → v ≤ j → j < f → Dec (j ≡ v) → t j ≡ false
      go j l h (yes q) = ap t q ∙ e
      go j l h (no q) = p.before j (omega arith) h

pub tallying_all : (m : ℕ) (t : ℕ → Bool) (left c f : ℕ) → left ≤ 0 → Tallying m t left c f → Tallied m t c f
unfolding count
tallying_all m t left c f l p =
    let z : count left t ≡ 0 = zero_count left t (λ k h. absurd (omega arith)) in
    record { many = omega (arith, p.rest); lowest = sym (first_at m t f p.low (λ j h. p.before j (omega arith) h) p.hit) }
