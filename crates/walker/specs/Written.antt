-- Steps as a plan holds them, read as the steps of `code`. Assumes nothing.
-- written s u == step u of the plan s    step kind i j == the step (kind, i, j)
use Rattle.std.specs.Prelude.{ℕ, ◌+◌, ◌<◌, ◌≤◌, ◌≡◌, refl, List, Bool, ◌⊎◌, length, get_or, set, take}
use Rattle.std.proofs.Common.{sym, ap, ◌∙◌, subst, inl, inr, arith, get_or-set_same, get_or-set_other}
use Rattle.std.proofs.lemmas.List.{get_or-take}
use Rattle.std.proofs.Math.Decide.{ℕ_discrete}
use Rattle.code.specs.Layout.{Layout}
use Rattle.code.specs.Live.{row, diagonal, Lone}
use Rattle.code.specs.LiveLaws.{Adds, known_ext, lone_ext}
use Rattle.code.specs.Steps.{Written, BuiltAt, RightStep, by_row, by_diagonal, of_row, of_strip, RightSteps}
use Rattle.walker.specs.declared.plan.Kind.{Kind}
use Rattle.walker.specs.declared.plan.Kind.TheVariants.{ByRow, ByDiagonal, H, U}
use Rattle.walker.specs.declared.plan.Step.{Step}

abbrev pub step : ℕ → ℕ → ℕ → Written
step kind i j = record { kind = kind; row = i; strip = j }

-- the kinds as `code` numbers them
abbrev pub number : Kind → ℕ
number ByRow = 1
number ByDiagonal = 2
number H = 3
number U = 4

-- a step as `code` has it
abbrev pub read : Step → Written
read x = step (number x.kind) x.row x.strip

-- what a list of steps is read as beyond its end
abbrev pub beyond : Step
beyond = record { kind = ByRow; row = 0; strip = 0 }

unfoldable pub written : List Step → ℕ → Written
written s u = read (get_or s u beyond)

-- step k is written down, and the steps before it are kept
pub record Recorded (s : List Step) (k kind i j : ℕ) (t : List Step) (e : ℕ) : Type 0 where
  pub count : e ≡ k + 1
  pub its : written t k ≡ step kind i j
  pub before : (u : ℕ) → u < k → written t u ≡ written s u

-- ---- a step is written down

pub recorded : (s : List Step) (k : ℕ) (x : Step) → k < length s → Recorded s k (number x.kind) x.row x.strip (set s k x) (k + 1)
unfolding written
recorded s k x l =
    record {
      count = refl;
      its = ap read (get_or-set_same s k x beyond l);
      before = λ u h. ap read (get_or-set_other s k u x beyond (omega arith));
    }

-- ---- the steps that are written down, as a list

-- step k of the first n
pub step_of : (s t : List Step) (n k : ℕ) → t ≡ take n s → k < n → written s k ≡ read (get_or t k beyond)
unfolding written
step_of s t n k e l = ap read (sym (get_or-take n s k beyond l) ∙ ap (λ (z : List Step). get_or z k beyond) (sym e))

-- ---- two plans

-- the steps that two plans share build the same places
built_same : (w v : ℕ → Written) (k : ℕ) → ((u : ℕ) → u < k → v u ≡ w u) → (x y : ℕ) → BuiltAt w k x y → BuiltAt v k x y
built_same w v k e x y b =
    record {
      step = b.step;
      early = b.early;
      its_row = ap (λ (z : Written). z.row) (e b.step b.early) ∙ b.its_row;
      its_strip = ap (λ (z : Written). z.strip) (e b.step b.early) ∙ b.its_strip;
    }

module _ {s t : List Step} {k e kind i j : ℕ} (w : Recorded s k kind i j t e) where
  kept : (u : ℕ) → u ≤ k → (x y : ℕ) → BuiltAt (written s) u x y → BuiltAt (written t) u x y
  kept u l = built_same (written s) (written t) u (λ v lv. w.before v (omega arith))

  back : (u : ℕ) → u ≤ k → (x y : ℕ) → BuiltAt (written t) u x y → BuiltAt (written s) u x y
  back u l = built_same (written t) (written s) u (λ v lv. sym (w.before v (omega arith)))

  -- one place more is built
  pub built_adds : Adds (BuiltAt (written s) k) (BuiltAt (written t) e) i j
  built_adds =
      record {
        grows = λ x y b. more (kept k (omega arith) x y b);
        here = record {
          step = k;
          early = omega (arith, w.count);
          its_row = ap (λ (z : Written). z.row) w.its;
          its_strip = ap (λ (z : Written). z.strip) w.its;
        };
        only = λ x y b. last x y b (ℕ_discrete b.step k);
      }
    where
      more : {x y : ℕ} → BuiltAt (written t) k x y → BuiltAt (written t) e x y
      more b = record { step = b.step; early = omega (arith, b.early, w.count); its_row = b.its_row; its_strip = b.its_strip }

      last : (x y : ℕ) → (b : BuiltAt (written t) e x y) → Dec (b.step ≡ k) → BuiltAt (written s) k x y ⊎ ((x ≡ i) × (y ≡ j))
      last x y b (yes q) =
          let z : written t b.step ≡ step kind i j = ap (written t) q ∙ w.its in
          inr (sym b.its_row ∙ ap (λ (v : Written). v.row) z, sym b.its_strip ∙ ap (λ (v : Written). v.strip) z)
      last x y b (no ne) =
          inl (back k (omega arith) x y (record { step = b.step; early = omega (arith, b.early, w.count); its_row = b.its_row; its_strip = b.its_strip }))

-- ---- right steps

-- the same places built, the same steps are right
pub right_ext : {L : Layout} {lost : ℕ → Bool} {B C : ℕ → ℕ → Type 0} → ((i j : ℕ) → B i j → C i j) → ((i j : ℕ) → C i j → B i j)
    → {x : Written} → RightStep L lost B x → RightStep L lost C x
right_ext {L} {lost} to from (by_row e y) = by_row e (lone_ext L lost (λ i j li lj. to i j) (λ i j li lj. from i j) y)
right_ext {L} {lost} to from (by_diagonal e y) = by_diagonal e (lone_ext L lost (λ i j li lj. to i j) (λ i j li lj. from i j) y)
right_ext to from {x} (of_row e li lj is new rest) =
    of_row e li lj is (λ c. new (from _ _ c)) (λ j l. known_ext (to _ _) (rest j l))
right_ext to from {x} (of_strip e ei lj is new rest) =
    of_strip e ei lj is (λ c. new (from _ _ c)) (λ i l. known_ext (to _ _) (rest i l))

-- the one element that a row gives, and that a diagonal gives, make right steps
pub row_right : {L : Layout} {lost : ℕ → Bool} {B : ℕ → ℕ → Type 0} {x i j : ℕ} → Lone L lost B (row x) i j → RightStep L lost B (step 1 i j)
row_right {L} {lost} {B} {x} {i} {j} y = by_row refl (subst (λ (h : ℕ). Lone L lost B (row h) i j) (sym y.on) y)

pub diagonal_right : {L : Layout} {lost : ℕ → Bool} {B : ℕ → ℕ → Type 0} {d i j : ℕ} → Lone L lost B (diagonal d) i j → RightStep L lost B (step 2 i j)
diagonal_right {L} {lost} {B} {d} {i} {j} y = by_diagonal refl (subst (λ (h : ℕ). Lone L lost B (diagonal h) i j) (sym y.on) y)

-- a right step more
pub right_more : {L : Layout} {lost : ℕ → Bool} {s t : List Step} {k e kind i j : ℕ} → Recorded s k kind i j t e
    → RightSteps L lost (written s) k → RightStep L lost (BuiltAt (written s) k) (step kind i j) → RightSteps L lost (written t) e
right_more {L} {lost} {s} {t} {k} {e} {kind} {i} {j} w old new = record { right = λ u lu. go u lu (ℕ_discrete u k) }
  where
    moved : (u : ℕ) (x : Written) → u ≤ k → written t u ≡ x → RightStep L lost (BuiltAt (written s) u) x → RightStep L lost (BuiltAt (written t) u) (written t u)
    moved u x l q y =
        subst (λ (z : Written). RightStep L lost (BuiltAt (written t) u) z) (sym q) (right_ext (kept w u l) (back w u l) y)

    go : (u : ℕ) → u < e → Dec (u ≡ k) → RightStep L lost (BuiltAt (written t) u) (written t u)
    go u lu (yes q) = subst (λ (v : ℕ). RightStep L lost (BuiltAt (written t) v) (written t v)) (sym q) (moved k (step kind i j) (omega arith) w.its new)
    go u lu (no ne) = moved u (written s u) (omega (arith, w.count)) (w.before u (omega (arith, w.count))) (old.right u (omega (arith, w.count)))
