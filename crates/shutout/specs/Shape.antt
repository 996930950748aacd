-- Programs that the contracts of judge and of the walker shut out: each contract, applied to what that program would answer on a named shape,
-- is absurd. Assumes nothing.
use Rattle.std.specs.Prelude.{ℕ, zero, suc, ◌<◌, ◌≡◌, refl, ◌≢◌, ◌⊎◌, Bool, Err, Ok}
use Rattle.std.proofs.Common.{sym, ap, ◌∙◌, inl, inr, arith}
use Rattle.code.specs.Bound.{q, pr, searched}
use Rattle.code.specs.Layout.{pair}
use Rattle.code.specs.Live.{diagonal, Known, survives, Lone}
use Rattle.code.specs.Shift.{shift, meets}
use Rattle.code.specs.Shift as shifted
use Rattle.code.proofs.ShiftLaws.{shift_fair}
use Rattle.code.specs.Steps.{Written, BuiltAt}
use Rattle.code.specs.Walk.{Walk}
use Rattle.shape.specs.declared.shapes.Shape.{Shape}
use Rattle.shape.specs.declared.refusal.Refusal.{Refusal}
use Rattle.shape.specs.Refusal.{number_of, refusal_some}
use Rattle.shape.specs.Judge.{Judges}

-- a judge that accepts all: n = 4, s = 2 serves no r
pub accepts_all : (h : Shape) (b : ℕ) → Judges 4 1 2 1 (Ok (h, b)) → ⊥
unfolding q pr searched
accepts_all h b x = five x.number
  where
    five : ◌≡◌ {A = ℕ} 0 5 → ⊥
    five e = omega arith

-- a judge that refuses all: n = 7, r = 5, s = 1 is good
pub refuses_all : (x : Refusal) → Judges 7 5 1 1 (Err x) → ⊥
unfolding q pr searched
refuses_all x y = none y.number (refusal_some x)
  where
    none : number_of x ≡ 0 → 0 < number_of x → ⊥
    none e l = omega arith

-- n = 8, r = 3, s = 5 with strips 0 and 4 lost: three chains, one for each row, none of which touches U(0) or U(4). The chain of row 1
-- starts at diagonal 2, which has the element of row 1 in strip 0 as its one unknown
row_one : (B : ℕ → ℕ → Type 0) → (B 1 0 → ⊥) → Lone (shift 8 3 5) (pair 0 4) B (diagonal 2) 1 0
unfolding meets shifted.diagonal
row_one B new =
    record {
      live = refl;
      row_below = omega arith;
      strip_below = omega arith;
      on = refl;
      is_lost = refl;
      new = new;
      rest = λ h l lh ll o d. go h l lh (sym ((shift_fair 8 3 5 (omega arith)).meets_diagonal h l lh ll) ∙ ap (meets 8 3 5 h) o) d;
    }
  where
    go : (h l : ℕ) → h < 3 → l ≡ meets 8 3 5 h 2 → (h ≢ 1) ⊎ (l ≢ 0) → Known (pair 0 4) B h l
    go zero l lh e d = survives (ap (pair 0 4) e)
    go (suc zero) l lh e (inl ne) = absurd (ne refl)
    go (suc zero) l lh e (inr ne) = absurd (ne e)
    go (suc (suc zero)) l lh e d = survives (ap (pair 0 4) e)
    go (suc (suc (suc h))) l lh e d = absurd (omega arith)

-- a walker that follows only chains that touch the lost v-parities records nothing there
pub parity_chains : (w : ℕ → Written) (whole : Bool) → Walk (shift 8 3 5) (pair 0 4) w 0 whole → ⊥
parity_chains w whole x = x.finished.none (diagonal 2) 1 0 (row_one (BuiltAt w 0) (λ y. none y.early))
  where
    none : {u : ℕ} → u < 0 → ⊥
    none l = omega arith

-- a walker that stops after the first chain records the two elements of row 0
pub first_chain : (w : ℕ → Written) (whole : Bool) → w 0 ≡ record { kind = 2; row = 0; strip = 0 } → w 1 ≡ record { kind = 1; row = 0; strip = 4 }
    → Walk (shift 8 3 5) (pair 0 4) w 2 whole → ⊥
first_chain w whole e₀ e₁ x = x.finished.none (diagonal 2) 1 0 (row_one (BuiltAt w 2) (λ y. other y.step y.early y.its_row))
  where
    row_zero : (v : Written) (k j : ℕ) → v ≡ record { kind = k; row = 0; strip = j } → v.row ≡ 1 → ⊥
    row_zero v k j e z = let o = ap (λ (y : Written). y.row) e in omega arith

    other : (u : ℕ) → u < 2 → (w u).row ≡ 1 → ⊥
    other zero l z = row_zero (w 0) 2 0 e₀ z
    other (suc zero) l z = row_zero (w 1) 1 4 e₁ z
    other (suc (suc u)) l z = omega arith
