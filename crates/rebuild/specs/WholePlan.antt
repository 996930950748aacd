-- THE PLAN: on a good shape the walk over the shape's map builds every lost place, and its steps, read as steps of the shift family, are a
-- right and complete plan. Assumes nothing.
-- m == the map of diagonals    h == the homes    w == the written steps    k == how many
use Rattle.std.specs.Prelude.{ℕ, ◌≤◌, ◌<◌, ◌≡◌, refl, ◌≢◌, List, Bool, true, false, length, get_or}
use Rattle.std.proofs.Common.{sym, ap, ◌∙◌, subst, not-suc-le-zero, arith, eq-eqb, ne_eqb}
use Rattle.code.specs.SumLaws.{clash}
use Rattle.code.specs.Code.{Code}
use Rattle.code.specs.CodeLaws.{not_both}
use Rattle.code.specs.Alike.{Alike, alike_sym, decided_alike}
use Rattle.code.specs.Plan.{Step, Built, Given, survives, built, Gives, Right, Complete}
use Rattle.code.specs.Layout.{Layout, Fair, Latin, X, code, pair}
use Rattle.code.specs.Drawn.{drawn, Draws}
use Rattle.code.specs.DrawnLaws.{drawn_owner, drawn_fair, drawn_latin, drawn_alike}
use Rattle.code.specs.Steps.{Written, line_of, plan_of}
use Rattle.code.specs.Walk.{Walk}
use Rattle.code.specs.StepsLaws.{steps_right, steps_complete}
use Rattle.code.specs.Stopped.{walk_exact}
use Rattle.code.specs.Shift.{shift}
use Rattle.code.proofs.ShiftLaws.{shift_latin}
use Rattle.code.specs.Bound.{Good, wide, narrow}
use Rattle.shape.specs.Limits.{Limits}
use Rattle.shape.specs.Map.{Filled, Homes}
use Rattle.shape.specs.MapLaws.{filled_draws}
use Rattle.shape.specs.LimitsLaws.{limits_fair}
use Rattle.rebuild.specs.LostStrips.{pair_decided}
use Rattle.rebuild.specs.Stepping.{Shaped, data_row, data_diagonal, h_row, v_diagonal}
use Rattle.rebuild.specs.SteppingLaws.{walk_shaped}

-- a plan that is right and complete
pub record Planned (L : Layout) (lost : ℕ → Bool) (plan : ℕ → Step) (k : ℕ) : Type 0 where
  pub right : Right (code L) lost plan k
  pub complete : Complete (code L) lost plan k

-- ---- from one code to another that is alike, and from one name of the lost set to another

-- what a line gives in the one it gives in the other
gives_alike : (C D : Code) → Alike C D → (lost same : ℕ → Bool) → ((j : ℕ) → lost j ≡ same j) → (A B : ℕ → Type 0)
    → ((p : ℕ) → A p → B p) → ((p : ℕ) → B p → A p) → (t p : ℕ) → Gives C lost A t p → Gives D same B t p
gives_alike C D x lost same eq A B to from t p g =
    record {
      is_line = subst (λ (l : ℕ). t < l) x.lines g.is_line;
      index = g.index;
      within = subst (λ (ps : List ℕ). g.index < length ps) lines g.within;
      on = subst (λ (ps : List ℕ). get_or ps g.index 0 ≡ p) lines g.on;
      is_lost = sym (strip p) ∙ g.is_lost;
      new = λ b. g.new (from p b);
      rest = subst (λ (ps : List ℕ). (v : ℕ) → v < length ps → v ≢ g.index → Given D same B (get_or ps v 0)) lines
          (λ v lv ne. hand (get_or (C.line t) v 0) (g.rest v lv ne));
    }
  where
    lines : C.line t ≡ D.line t
    lines = x.line t g.is_line

    strip : (q : ℕ) → lost (C.strip q) ≡ same (D.strip q)
    strip q = eq (C.strip q) ∙ ap same (x.strip q)

    hand : (q : ℕ) → Given C lost A q → Given D same B q
    hand q (survives e) = survives (sym (strip q) ∙ e)
    hand q (built a) = built (to q a)

-- where nothing is lost no step is needed
pub nothing_planned : (L : Layout) (lost : ℕ → Bool) → ((j : ℕ) → lost j ≡ false) → (plan : ℕ → Step) → Planned L lost plan 0
nothing_planned L lost f plan =
    record {
      right = record { step = λ u lu. absurd (not-suc-le-zero lu) };
      complete = record { all = λ p lp o. clash (sym (f ((code L).strip p)) ∙ o) };
    }

-- ---- from the map to the layout that it draws

module _ (m : List (List ℕ)) (h : List ℕ) (L : Layout) (F : Fair L) (x : Draws m h L) (lost : ℕ → Bool) (w : ℕ → Written) (k : ℕ) where
  -- the line of a step inside the shape is the same
  line_same : (z : Written) → Shaped L.n L.r z → line_of (drawn m h L.n L.r) z ≡ line_of L z
  line_same z (data_row e li lj) = simp (ne_eqb z.kind 2 (omega arith), ne_eqb z.kind 4 (omega arith))
  line_same z (data_diagonal e li lj) = simp (eq-eqb z.kind 2 e, x.diagonals z.row z.strip li lj)
  line_same z (h_row e li lj) = simp (ne_eqb z.kind 2 (omega arith), ne_eqb z.kind 4 (omega arith))
  line_same z (v_diagonal e li lj) = simp (ne_eqb z.kind 2 (omega arith), eq-eqb z.kind 4 e, drawn_owner m h L F x z.strip lj)

  -- its targets are the same places
  built_drawn : (u p : ℕ) → Built (plan_of (drawn m h L.n L.r) w) u p → Built (plan_of L w) u p
  built_drawn u p b = record { step = b.step; early = b.early; it = b.it }

  drawn_built : (u p : ℕ) → Built (plan_of L w) u p → Built (plan_of (drawn m h L.n L.r) w) u p
  drawn_built u p b = record { step = b.step; early = b.early; it = b.it }

  -- a walk over the map that left nothing is a plan of the layout
  pub walk_planned : Walk (drawn m h L.n L.r) lost w k true → Planned L lost (plan_of L w) k
  walk_planned y =
      record {
        right = record {
          step = λ u lu.
              subst (λ (t : ℕ). Gives (code L) lost (Built (plan_of L w) u) t (X L (w u).row (w u).strip))
              (line_same (w u) (walk_shaped (drawn m h L.n L.r) lost w k true y u lu))
              (gives_alike (code (drawn m h L.n L.r)) (code L) (drawn_alike m h L F x) lost lost (λ j. refl) _ (Built (plan_of L w) u) (built_drawn u) (drawn_built u)
              (line_of (drawn m h L.n L.r) (w u)) (X L (w u).row (w u).strip)
              ((steps_right (drawn m h L.n L.r) (drawn_fair m h L F x) lost w k y.right).step u lu));
        };
        complete = record {
          all = λ p lp o. built_drawn k p ((steps_complete (drawn m h L.n L.r) (drawn_fair m h L F x) lost w k (y.all refl)).all p lp o);
        };
      }

-- ---- a good shape

module _ (n r s e : ℕ) (l : Limits n r s e) (g : Good n r s) (m : List (List ℕ)) (h : List ℕ) (f : Filled m n r s) (o : Homes h)
    (a b : ℕ) (le : a ≤ b) (lb : b ≤ n) (w : ℕ → Written) (k : ℕ) where
  fair : Fair (shift n r s)
  fair = limits_fair n r s _ l

  draws : Draws m h (shift n r s)
  draws = filled_draws m h n r s l.n_high f o

  latin : Good n r s → Latin (shift n r s)
  latin (wide p q) = shift_latin n r s (omega (arith, l.n_low)) (omega arith)
  latin (narrow p q) = shift_latin n r s (omega (arith, l.n_low)) (omega arith)

  -- the walk left nothing
  pub walk_whole : (whole : Bool) → Walk (drawn m h n r) (pair a b) w k whole → whole ≡ true
  walk_whole true y = refl
  walk_whole false y =
      absurd (not_both (code (drawn m h n r)) (pair a b)
      (decided_alike (code (shift n r s)) (code (drawn m h n r))
      (alike_sym (code (drawn m h n r)) (code (shift n r s)) (drawn_alike m h (shift n r s) fair draws))
      (pair a b) (pair_decided n r s e a b l g le lb))
      ((walk_exact (drawn m h n r) (drawn_fair m h (shift n r s) fair draws) (drawn_latin m h (shift n r s) fair draws (latin g)) a b w k false y).fails refl))

  -- and is a right and complete plan of the shift family
  pub whole_plan : (whole : Bool) → Walk (drawn m h n r) (pair a b) w k whole → Planned (shift n r s) (pair a b) (plan_of (shift n r s) w) k
  whole_plan whole y = walk_planned m h (shift n r s) fair draws (pair a b) w k (subst (Walk (drawn m h n r) (pair a b) w k) (walk_whole whole y) y)
