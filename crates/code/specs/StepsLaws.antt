-- Written steps are steps of the code: where each is right as written, the plan is right, and where every lost place is a target it is
-- complete; so a walk that left nothing shows that the lost set is decided. Assumes nothing.
use Rattle.std.specs.Prelude.{ℕ, ◌+◌, ◌<◌, ◌≤◌, ◌≡◌, refl, ◌≢◌, List, Bool, true, eqb, length, get_or}
use Rattle.std.proofs.Common.{sym, ap, ap₂, ◌∙◌, subst, inl, inr, arith, eq-eqb, ne_eqb}
use Rattle.std.proofs.Math.Decide.{dec_lt}
use Rattle.code.specs.Sum.{pick}
use Rattle.code.specs.Code.{Code, Decided}
use Rattle.code.specs.Plan.{Built, Given, Gives, Right, Complete}
use Rattle.code.specs.Plan as plan
use Rattle.code.specs.Peel.{peel}
use Rattle.code.specs.Place.{strip_of, same_strip, same_row, place_strip}
use Rattle.code.specs.Layout.{Layout, Fair, height, X, row_line, diagonal_line, code}
use Rattle.code.specs.LayoutLaws.{row_length, row_at, diagonal_length, diagonal_at, diagonal_end, line_row, line_diagonal, layout_within, by_places, X_strip, H_strip, U_strip}
use Rattle.code.specs.Live.{Known, survives, built}
use Rattle.code.specs.Steps.{Written, line_of, plan_of, BuiltAt, RightStep, by_row, by_diagonal, of_row, of_strip, RightSteps}
use Rattle.code.specs.Walk.{AllBuilt, Walk}

-- what a line gives, from the list of its places
gives_of : (C : Code) (lost : ℕ → Bool) (B : ℕ → Type 0) (t p : ℕ) (ps : List ℕ) → C.line t ≡ ps → t < C.lines → (u : ℕ) → u < length ps
    → get_or ps u 0 ≡ p → lost (C.strip p) ≡ true → (B p → ⊥) → ((v : ℕ) → v < length ps → v ≢ u → Given C lost B (get_or ps v 0)) → Gives C lost B t p
gives_of C lost B t p ps e lt u lu o il new rest =
    record {
      is_line = lt;
      index = u;
      within = subst (λ (l : List ℕ). u < length l) (sym e) lu;
      on = ap (λ (l : List ℕ). get_or l u 0) e ∙ o;
      is_lost = il;
      new = new;
      rest = subst (λ (l : List ℕ). (v : ℕ) → v < length l → v ≢ u → Given C lost B (get_or l v 0)) (sym e) rest;
    }

-- the line of a step of each kind
module _ (L : Layout) where
  line_not_two : (x : Written) → x.kind ≢ 2 → line_of L x ≡ pick (eqb x.kind 4) (L.r + L.owner x.strip) x.row
  line_not_two x n2 =
      ap (λ (t : Bool). pick t (L.r + L.diagonal x.row x.strip) (pick (eqb x.kind 4) (L.r + L.owner x.strip) x.row)) (ne_eqb x.kind 2 n2)

  pub line_else : (x : Written) → x.kind ≢ 2 → x.kind ≢ 4 → line_of L x ≡ x.row
  line_else x n2 n4 = line_not_two x n2 ∙ ap (λ (t : Bool). pick t (L.r + L.owner x.strip) x.row) (ne_eqb x.kind 4 n4)

  pub line_own : (x : Written) → x.kind ≡ 4 → line_of L x ≡ L.r + L.owner x.strip
  line_own x e = line_not_two x (omega arith) ∙ ap (λ (t : Bool). pick t (L.r + L.owner x.strip) x.row) (eq-eqb x.kind 4 e)

  pub line_cross : (x : Written) → x.kind ≡ 2 → line_of L x ≡ L.r + L.diagonal x.row x.strip
  line_cross x e =
      ap (λ (t : Bool). pick t (L.r + L.diagonal x.row x.strip) (pick (eqb x.kind 4) (L.r + L.owner x.strip) x.row)) (eq-eqb x.kind 2 e)

module _ (L : Layout) (F : Fair L) (lost : ℕ → Bool) (w : ℕ → Written) where
  -- a right step is written inside the shape
  row_within : (B : ℕ → ℕ → Type 0) (x : Written) → RightStep L lost B x → x.row ≤ L.r
  row_within B x (by_row e y) = omega (arith, y.row_below)
  row_within B x (by_diagonal e y) = omega (arith, y.row_below)
  row_within B x (of_row e li ej lo new all) = omega arith
  row_within B x (of_strip e ei lj lo new all) = omega arith

  -- a built place as written is a built place of the code, and back
  built_to : (u i j : ℕ) → BuiltAt w u i j → Built (plan_of L w) u (X L i j)
  built_to u i j x = record { step = x.step; early = x.early; it = ap₂ (λ (h l : ℕ). X L h l) x.its_row x.its_strip }

  module _ (u : ℕ) (inside : (v : ℕ) → v < u → (w v).row ≤ L.r) where
    built_from : (i j : ℕ) → i ≤ L.r → Built (plan_of L w) u (X L i j) → BuiltAt w u i j
    built_from i j li x =
        record {
          step = x.step;
          early = x.early;
          its_row = same_row (height L) (w x.step).row (w x.step).strip i j (omega (arith, inside x.step x.early)) (omega arith) x.it;
          its_strip = same_strip (height L) (w x.step).row (w x.step).strip i j (omega (arith, inside x.step x.early)) (omega arith) x.it;
        }

    -- the strip of a place inside the shape
    strip_at : (i j : ℕ) → i ≤ L.r → lost (strip_of (height L) (X L i j)) ≡ lost j
    strip_at i j li = ap lost (place_strip (height L) i j (omega arith))

    hand : (i j : ℕ) → i ≤ L.r → Known lost (BuiltAt w u) i j → Given (code L) lost (Built (plan_of L w) u) (X L i j)
    hand i j li (survives e) = plan.survives (strip_at i j li ∙ e)
    hand i j li (built x) = plan.built (built_to u i j x)

    -- a row gives the place of its strip j, where its other places are at hand
    row_gives : (i j : ℕ) → i < L.r → j ≤ L.n → lost j ≡ true → (BuiltAt w u i j → ⊥) → ((v : ℕ) → v ≤ L.n → v ≢ j → Known lost (BuiltAt w u) i v)
        → Gives (code L) lost (Built (plan_of L w) u) i (X L i j)
    row_gives i j li lj lo new rest =
        gives_of (code L) lost (Built (plan_of L w) u) i (X L i j) (row_line L i) (line_row L i li) (omega arith) j (omega (arith, row_length L i))
        (row_at L i j lj) (strip_at i j (omega arith) ∙ lo) (λ x. new (built_from i j (omega arith) x))
        (λ v lv ne. let l : v ≤ L.n = omega (arith, row_length L i) in
        subst (Given (code L) lost (Built (plan_of L w) u)) (sym (row_at L i v l)) (hand i v (omega arith) (rest v l ne)))

    -- a diagonal gives the place of its row i, where its other places are at hand
    diagonal_gives : (d i j : ℕ) → d < L.n → i ≤ L.r → get_or (diagonal_line L d) i 0 ≡ X L i j → lost j ≡ true → (BuiltAt w u i j → ⊥)
        → ((v : ℕ) → v < L.r → v ≢ i → Known lost (BuiltAt w u) v (L.meets v d)) → (i ≢ L.r → Known lost (BuiltAt w u) L.r (L.home d))
        → Gives (code L) lost (Built (plan_of L w) u) (L.r + d) (X L i j)
    diagonal_gives d i j ld li on lo new rest end =
        gives_of (code L) lost (Built (plan_of L w) u) (L.r + d) (X L i j) (diagonal_line L d) (line_diagonal L d) (omega arith) i
        (omega (arith, diagonal_length L d)) on (strip_at i j li ∙ lo) (λ x. new (built_from i j li x))
        (λ v lv ne. go v (omega (arith, lv, diagonal_length L d)) ne (dec_lt v L.r))
      where
        go : (v : ℕ) → v < L.r + 1 → v ≢ i → Dec (v < L.r) → Given (code L) lost (Built (plan_of L w) u) (get_or (diagonal_line L d) v 0)
        go v lv ne (yes l) =
            subst (Given (code L) lost (Built (plan_of L w) u)) (sym (diagonal_at L d v l)) (hand v (L.meets v d) (omega arith) (rest v l ne))
        go v lv ne (no l) =
            subst (Given (code L) lost (Built (plan_of L w) u)) (sym (diagonal_end L d v (omega arith)))
            (hand L.r (L.home d) (omega arith) (end (λ e. ne (omega arith))))

    -- each kind
    step_gives : (x : Written) → RightStep L lost (BuiltAt w u) x → Gives (code L) lost (Built (plan_of L w) u) (line_of L x) (X L x.row x.strip)
    step_gives x (by_row e y) =
        subst (λ (t : ℕ). Gives (code L) lost (Built (plan_of L w) u) t (X L x.row x.strip)) (sym (line_else L x (omega arith) (omega arith)))
        (row_gives x.row x.strip y.row_below (omega (arith, y.strip_below)) y.is_lost y.new (λ v lv ne. go v lv ne (dec_lt v L.n)))
      where
        go : (v : ℕ) → v ≤ L.n → v ≢ x.strip → Dec (v < L.n) → Known lost (BuiltAt w u) x.row v
        go v lv ne (yes l) = y.rest x.row v y.row_below l refl (inr ne)
        go v lv ne (no l) = subst (Known lost (BuiltAt w u) x.row) (omega arith) (survives y.live)
    step_gives x (by_diagonal e y) =
        subst (λ (t : ℕ). Gives (code L) lost (Built (plan_of L w) u) t (X L x.row x.strip))
        (sym (line_cross L x e))
        (diagonal_gives d x.row x.strip ld (omega (arith, y.row_below))
        (diagonal_at L d x.row y.row_below ∙ ap (X L x.row) (F.meets_diagonal x.row x.strip y.row_below y.strip_below))
        y.is_lost y.new
        (λ v lv ne. y.rest v (L.meets v d) lv (F.meets_lt v d lv ld) (F.diagonal_meets v d lv ld) (inl ne))
        (λ ne. survives y.live))
      where
        d : ℕ
        d = L.diagonal x.row x.strip

        ld : d < L.n
        ld = F.diagonal_lt x.row x.strip y.row_below y.strip_below
    step_gives x (of_row e li ej lo new all) =
        subst (λ (t : ℕ). Gives (code L) lost (Built (plan_of L w) u) t (X L x.row x.strip)) (sym (line_else L x (omega arith) (omega arith)))
        (subst (λ (j : ℕ). Gives (code L) lost (Built (plan_of L w) u) x.row (X L x.row j)) (sym ej)
        (row_gives x.row L.n li (omega arith) lo new (λ v lv ne. all v (omega arith))))
    step_gives x (of_strip e ei lj lo new all) =
        subst (λ (t : ℕ). Gives (code L) lost (Built (plan_of L w) u) t (X L x.row x.strip)) (sym (line_own L x e))
        (subst (λ (i : ℕ). Gives (code L) lost (Built (plan_of L w) u) (L.r + d) (X L i x.strip)) (sym ei)
        (diagonal_gives d L.r x.strip (F.owner_lt x.strip lj) (omega arith)
        (diagonal_end L d L.r refl ∙ ap (X L L.r) (F.home_owner x.strip lj)) lo new (λ v lv ne. all v lv) (λ ne. absurd (ne refl))))
      where
        d : ℕ
        d = L.owner x.strip

  module _ (k : ℕ) where
    pub steps_right : RightSteps L lost w k → Right (code L) lost (plan_of L w) k
    steps_right s = record { step = λ u lu. step_gives u (λ v lv. row_within (BuiltAt w v) (w v) (s.right v (omega arith))) (w u) (s.right u lu) }

    pub steps_complete : AllBuilt L lost w k → Complete (code L) lost (plan_of L w) k
    steps_complete b =
        record {
          all = by_places L F (λ p. lost (strip_of (height L) p) ≡ true → Built (plan_of L w) k p)
              (λ i j li lj o. built_to k i j (b.elements i j li lj (sym (ap lost (X_strip L i j li)) ∙ o)))
              (λ i li o. built_to k i L.n (b.h_parity (sym (ap lost (H_strip L i li)) ∙ o) i li))
              (λ d ld o. built_to k L.r (L.home d) (b.v_parity (L.home d) (F.home_lt d ld) (sym (ap lost (U_strip L d)) ∙ o)));
        }

    -- a walk that left nothing shows that the survivors decide the stripe
    pub walk_decided : Walk L lost w k true → Decided (code L) lost
    walk_decided x = peel (code L) lost (plan_of L w) k (layout_within L F) (steps_right x.right) (steps_complete (x.all refl))
