-- Laws of the end of a walk: each step for a parity is right and new, and in the end every lost place is built. Assumes nothing.
use Rattle.std.specs.Prelude.{ℕ, ◌+◌, ◌<◌, ◌≤◌, ◌≡◌, refl, List, Bool, true, ◌⊎◌}
use Rattle.std.proofs.Common.{sym, subst, inl, inr, arith}
use Rattle.std.proofs.Math.Decide.{ℕ_discrete, dec_lt}
use Rattle.code.specs.SumLaws.{clash}
use Rattle.code.specs.Layout.{Layout, Fair, pair}
use Rattle.code.specs.LayoutLaws.{pair_left, pair_right, pair_yes}
use Rattle.code.specs.Drawn.{drawn}
use Rattle.code.specs.LiveLaws.{Adds, known_of}
use Rattle.code.specs.Steps.{BuiltAt, of_row, of_strip}
use Rattle.code.specs.Walk.{Walk}
use Rattle.walker.specs.declared.plan.Step.{Step}
use Rattle.walker.specs.Flags.{Marked}
use Rattle.walker.specs.Written.{written, Recorded, built_adds, right_more}
use Rattle.walker.specs.Search.{StripBuilt}
use Rattle.walker.specs.Chain.{State}
use Rattle.walker.specs.Closing.{Closing, BuiltV, BuiltH, WrittenH}

-- all lost data is built, and no parity
pub closing_start : {L : Layout} {lost : ℕ → Bool} {g : List (List Bool)} {s : List Step} {k : ℕ} → State L lost g s k
    → ((i j : ℕ) → i < L.r → j < L.n → lost j ≡ true → Marked g i j) → Closing L lost s k 0 0
closing_start {L} {lost} {g} {s} {k} S all =
    record {
      right = S.right;
      elements = λ i j li lj e. S.to i j (all i j li lj e);
      v_built = λ j l. absurd (omega arith);
      v_new = λ j l lj b. past (S.inside L.r j (S.from L.r j b)).0;
      h_built = λ e i l. absurd (omega arith);
      h_new = λ i l li b. past (S.inside i L.n (S.from i L.n b)).1;
    }
  where
    past : {x : ℕ} → x < x → ⊥
    past l = omega arith

-- both strips are built
pub both_built : {n r : ℕ} {g : List (List Bool)} (a b : ℕ) {t u : Bool} → StripBuilt n r g a t → t ≡ true → StripBuilt n r g b u → u ≡ true
    → (i j : ℕ) → i < r → j < n → pair a b j ≡ true → Marked g i j
both_built {n} {r} {g} a b p et q eu i j li lj e = go (pair_yes a b j e)
  where
    go : (j ≡ a) ⊎ (j ≡ b) → Marked g i j
    go (inl z) = subst (λ (v : ℕ). Marked g i v) (sym z) (p.all et (subst (λ (v : ℕ). v < n) z lj) i li)
    go (inr z) = subst (λ (v : ℕ). Marked g i v) (sym z) (q.all eu (subst (λ (v : ℕ). v < n) z lj) i li)

module _ {L : Layout} {lost : ℕ → Bool} {s : List Step} {k u h : ℕ} (c : Closing L lost s k u h) where
  -- U of strip j, with no lost strip between u and j
  pub closing_v : Fair L → (j : ℕ) → u ≤ j → j < L.n → lost j ≡ true → ((x : ℕ) → u ≤ x → x < j → lost x ≡ true → ⊥)
      → {t : List Step} {f : ℕ} → Recorded s k 4 L.r j t f → Closing L lost t f (j + 1) h
  closing_v F j lu lj e none {t} {f} w =
      record {
        right = right_more w c.right
            (of_strip refl refl lj e (c.v_new j lu lj)
            (λ i li. known_of lost (BuiltAt (written s) k) i (L.meets i (L.owner j))
            (c.elements i (L.meets i (L.owner j)) li (F.meets_lt i (L.owner j) li (F.owner_lt j lj)))));
        elements = λ x y lx ly z. adds.grows x y (c.elements x y lx ly z);
        v_built = λ x lx z. built x lx z (ℕ_discrete x j) (dec_lt x u);
        v_new = λ x lx ln b. new x lx ln (adds.only L.r x b);
        h_built = λ z x lx. adds.grows x L.n (c.h_built z x lx);
        h_new = λ x lx lr b. apart x lx lr (adds.only x L.n b);
      }
    where
      adds : Adds (BuiltAt (written s) k) (BuiltAt (written t) f) L.r j
      adds = built_adds w

      built : (x : ℕ) → x < j + 1 → lost x ≡ true → Dec (x ≡ j) → Dec (x < u) → BuiltAt (written t) f L.r x
      built x lx z (yes q) d = subst (λ (v : ℕ). BuiltAt (written t) f L.r v) (sym q) adds.here
      built x lx z (no ne) (yes l) = adds.grows L.r x (c.v_built x l z)
      built x lx z (no ne) (no l) = absurd (none x (omega arith) (omega arith) z)

      new : (x : ℕ) → j + 1 ≤ x → x < L.n → BuiltAt (written s) k L.r x ⊎ ((L.r ≡ L.r) × (x ≡ j)) → ⊥
      new x lx ln (inl b) = c.v_new x (omega arith) ln b
      new x lx ln (inr q) = omega (arith, q.1)

      apart : (x : ℕ) → h ≤ x → x < L.r → BuiltAt (written s) k x L.n ⊎ ((x ≡ L.r) × (L.n ≡ j)) → ⊥
      apart x lx lr (inl b) = c.h_new x lx lr b
      apart x lx lr (inr q) = omega (arith, q.0)

  -- strips that are not lost have no step
  pub closing_skip : (v : ℕ) → u ≤ v → ((x : ℕ) → u ≤ x → x < v → lost x ≡ true → ⊥) → Closing L lost s k v h
  closing_skip v lv none =
      record {
        right = c.right;
        elements = c.elements;
        v_built = λ x lx z. built x lx z (dec_lt x u);
        v_new = λ x lx. c.v_new x (omega arith);
        h_built = c.h_built;
        h_new = c.h_new;
      }
    where
      built : (x : ℕ) → x < v → lost x ≡ true → Dec (x < u) → BuiltAt (written s) k L.r x
      built x lx z (yes l) = c.v_built x l z
      built x lx z (no l) = absurd (none x (omega arith) lx z)

  -- H of row h
  pub closing_h : lost L.n ≡ true → h < L.r → {t : List Step} {f : ℕ} → Recorded s k 3 h L.n t f → Closing L lost t f u (h + 1)
  closing_h e lh {t} {f} w =
      record {
        right = right_more w c.right
            (of_row refl lh refl e (c.h_new h (omega arith) lh) (λ j lj. known_of lost (BuiltAt (written s) k) h j (c.elements h j lh lj)));
        elements = λ x y lx ly z. adds.grows x y (c.elements x y lx ly z);
        v_built = λ x lx z. adds.grows L.r x (c.v_built x lx z);
        v_new = λ x lx ln b. apart x lx ln (adds.only L.r x b);
        h_built = λ z x lx. built x lx (ℕ_discrete x h);
        h_new = λ x lx lr b. new x lx lr (adds.only x L.n b);
      }
    where
      adds : Adds (BuiltAt (written s) k) (BuiltAt (written t) f) h L.n
      adds = built_adds w

      apart : (x : ℕ) → u ≤ x → x < L.n → BuiltAt (written s) k L.r x ⊎ ((L.r ≡ h) × (x ≡ L.n)) → ⊥
      apart x lx ln (inl b) = c.v_new x lx ln b
      apart x lx ln (inr q) = omega (arith, q.1)

      built : (x : ℕ) → x < h + 1 → Dec (x ≡ h) → BuiltAt (written t) f x L.n
      built x lx (yes q) = subst (λ (v : ℕ). BuiltAt (written t) f v L.n) (sym q) adds.here
      built x lx (no ne) = adds.grows x L.n (c.h_built e x (omega arith))

      new : (x : ℕ) → h + 1 ≤ x → x < L.r → BuiltAt (written s) k x L.n ⊎ ((x ≡ h) × (L.n ≡ L.n)) → ⊥
      new x lx lr (inl b) = c.h_new x (omega arith) lr b
      new x lx lr (inr q) = omega (arith, q.0)

-- every lost place is built
pub walk_whole : {L : Layout} {lost : ℕ → Bool} {s : List Step} {k : ℕ} → Closing L lost s k L.n L.r → k ≤ 66 → Walk L lost (written s) k true
walk_whole c l =
    record {
      room = l;
      right = c.right;
      finished = record { none = λ K i j x. x.new (c.elements i j x.row_below x.strip_below x.is_lost) };
      all = λ e. record { elements = c.elements; v_parity = λ j lj z. c.v_built j lj z; h_parity = λ z i li. c.h_built z i li };
      some = λ e. clash (sym e);
    }

-- ---- the two lost strips

-- neither lies from u on before v
beside : (a b u v : ℕ) → (a < u) ⊎ (v ≤ a) → (b < u) ⊎ (v ≤ b) → (x : ℕ) → u ≤ x → x < v → pair a b x ≡ true → ⊥
beside a b u v p q x lu lv e = go p q (pair_yes a b x e)
  where
    go : (a < u) ⊎ (v ≤ a) → (b < u) ⊎ (v ≤ b) → (x ≡ a) ⊎ (x ≡ b) → ⊥
    go (inl l) y (inl z) = omega arith
    go (inr l) y (inl z) = omega arith
    go y (inl l) (inr z) = omega arith
    go y (inr l) (inr z) = omega arith

module _ {L : Layout} {s : List Step} {k : ℕ} (a b : ℕ) (la : a ≤ b) (lb : b ≤ L.n) (c : Closing L (pair a b) s k 0 0) where
  module _ (F : Fair L) (l : a < L.n) {t : List Step} {e : ℕ} (w : Recorded s k 4 L.r a t e) where
    v_first : Closing L (pair a b) t e (a + 1) 0
    v_first = closing_v c F a (omega arith) l (pair_left a b) (beside a b 0 a (inr (omega arith)) (inr la)) w

    pub v_one : (b < a + 1) ⊎ (L.n ≤ b) → Closing L (pair a b) t e L.n 0
    v_one z = closing_skip v_first L.n (omega arith) (beside a b (a + 1) L.n (inl (omega arith)) z)

    pub v_two : a < b → b < L.n → {v : List Step} {f : ℕ} → Recorded t e 4 L.r b v f → Closing L (pair a b) v f L.n 0
    v_two k₁ k₂ y =
        closing_skip (closing_v v_first F b (omega arith) k₂ (pair_right a b) (beside a b (a + 1) b (inl (omega arith)) (inr (omega arith))) y) L.n (omega arith)
        (beside a b (b + 1) L.n (inl (omega arith)) (inl (omega arith)))

module _ {n r b : ℕ} {s : List Step} {k : ℕ} where
  pub h_more : {t : List Step} {e i : ℕ} → WrittenH n r b s k t e i → b ≡ n → i < r → {v : List Step} {f : ℕ} → Recorded t e 3 i n v f → WrittenH n r b s k v f (i + 1)
  h_more x e l w =
      record {
        count = omega (arith, w.count, x.count);
        any = λ m h a c. closing_h (x.any m h a c) (subst (λ (z : ℕ). pair a b z ≡ true) e (pair_right a b)) l w;
      }

-- the U that the two lost strips have
module _ {n r a b : ℕ} {s : List Step} {k : ℕ} (la : a ≤ b) (lb : b ≤ n) where
  module _ (l : a < n) {t : List Step} {e : ℕ} (w : Recorded s k 4 r a t e) where
    pub built_v_one : (b < a + 1) ⊎ (n ≤ b) → BuiltV n r a b s k t e
    built_v_one q = record { room = omega (arith, w.count); any = λ m h F c. v_one a b la lb c F l w q }

    pub built_v_two : a < b → b < n → {v : List Step} {f : ℕ} → Recorded t e 4 r b v f → BuiltV n r a b s k v f
    built_v_two p q y = record { room = omega (arith, w.count, y.count); any = λ m h F c. v_two a b la lb c F l w p q y }

-- a walk that built all lost data, and then every lost U and H
pub walk_built : {n r : ℕ} {g : List (List Bool)} {s t v : List Step} {k e f : ℕ} (m : List (List ℕ)) (h : List ℕ) (a b : ℕ) → a ≤ b → Fair (drawn m h n r)
    → State (drawn m h n r) (pair a b) g s k → ((i j : ℕ) → i < r → j < n → pair a b j ≡ true → Marked g i j)
    → BuiltV n r a b s k t e → BuiltH n r b t e v f → f ≤ 66 → Walk (drawn m h n r) (pair a b) (written v) f true
walk_built m h a b la F S all x y l = walk_whole (y.any m h a la (x.any m h F (closing_start S all))) l
