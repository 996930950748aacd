-- Laws of live lines: a live line gives one element at most, and once an element is built no line but the two through it gives anything new.
-- Assumes nothing.
use Rattle.std.specs.Prelude.{ℕ, ◌<◌, ◌≡◌, refl, ◌≢◌, ◌⊎◌, Bool, true, false}
use Rattle.std.proofs.Common.{sym, ap, ◌∙◌, subst, inl, inr}
use Rattle.std.proofs.Math.Decide.{ℕ_discrete}
use Rattle.code.specs.SumLaws.{clash}
use Rattle.code.specs.Layout.{Layout}
use Rattle.code.specs.Live.{Line, row, diagonal, On, Known, survives, built, Lone}

-- ---- elements

pub same_or : (h l i j : ℕ) → ((h ≡ i) × (l ≡ j)) ⊎ ((h ≢ i) ⊎ (l ≢ j))
same_or h l i j = go (ℕ_discrete h i) (ℕ_discrete l j)
  where
    go : Dec (h ≡ i) → Dec (l ≡ j) → ((h ≡ i) × (l ≡ j)) ⊎ ((h ≢ i) ⊎ (l ≢ j))
    go (yes p) (yes q) = inl (p, q)
    go (yes p) (no q) = inr (inr q)
    go (no p) q = inr (inl p)

-- a lost element that is known is built
pub at_hand : {lost : ℕ → Bool} {B : ℕ → ℕ → Type 0} {i j : ℕ} → lost j ≡ true → Known lost B i j → B i j
at_hand e (survives f) = clash (sym f ∙ e)
at_hand e (built x) = x

-- an element is known where it is built if it is lost
pub known_of : (lost : ℕ → Bool) (B : ℕ → ℕ → Type 0) (i j : ℕ) → (lost j ≡ true → B i j) → Known lost B i j
known_of lost B i j f = go (lost j) refl
  where
    go : (t : Bool) → lost j ≡ t → Known lost B i j
    go true e = built (f e)
    go false e = survives e

pub known_ext : {lost : ℕ → Bool} {B C : ℕ → ℕ → Type 0} {i j : ℕ} → (B i j → C i j) → Known lost B i j → Known lost C i j
known_ext f (survives e) = survives e
known_ext f (built x) = built (f x)

-- C is B with one element more, that of row i in strip j
pub record Adds (B C : ℕ → ℕ → Type 0) (i j : ℕ) : Type 0 where
  pub grows : (x y : ℕ) → B x y → C x y
  pub here : C i j
  pub only : (x y : ℕ) → C x y → B x y ⊎ ((x ≡ i) × (y ≡ j))

pub adds_same : {B C : ℕ → ℕ → Type 0} {i j : ℕ} → Adds B C i j → {h l : ℕ} → (h ≡ i) × (l ≡ j) → C h l
adds_same {B} {C} {i} {j} a {h} {l} e = subst (λ (y : ℕ). C h y) (sym e.1) (subst (λ (x : ℕ). C x j) (sym e.0) a.here)

-- ---- lines

on? : (L : Layout) (K : Line) (i j : ℕ) → Dec (On L K i j)
on? L (row x) i j = ℕ_discrete i x
on? L (diagonal d) i j = ℕ_discrete (L.diagonal i j) d

-- two lines go through an element
pub through : (L : Layout) (i j : ℕ) (K : Line) → On L K i j → (K ≡ row i) ⊎ (K ≡ diagonal (L.diagonal i j))
through L i j (row x) e = inl (ap row (sym e))
through L i j (diagonal d) e = inr (ap diagonal (sym e))

module _ (L : Layout) (lost : ℕ → Bool) where
  -- the same elements built, the same lines give
  pub lone_ext : {B C : ℕ → ℕ → Type 0} → ((i j : ℕ) → i < L.r → j < L.n → B i j → C i j) → ((i j : ℕ) → i < L.r → j < L.n → C i j → B i j)
      → {K : Line} {i j : ℕ} → Lone L lost B K i j → Lone L lost C K i j
  lone_ext to from {K} {i} {j} x =
      record {
        live = x.live;
        row_below = x.row_below;
        strip_below = x.strip_below;
        on = x.on;
        is_lost = x.is_lost;
        new = λ y. x.new (from i j x.row_below x.strip_below y);
        rest = λ h l lh ll o d. known_ext (to h l lh ll) (x.rest h l lh ll o d);
      }

  -- a data element of the line K that is lost and not built
  pub record Unknown (B : ℕ → ℕ → Type 0) (K : Line) (i j : ℕ) : Type 0 where
    pub row_below : i < L.r
    pub strip_below : j < L.n
    pub on : On L K i j
    pub is_lost : lost j ≡ true
    pub new : B i j → ⊥

  -- a line with two unknown elements gives none
  pub two_unknown : {B : ℕ → ℕ → Type 0} {K : Line} {p q u v : ℕ} → Unknown B K p q → Unknown B K u v → (p ≢ u) ⊎ (q ≢ v)
      → (h l : ℕ) → Lone L lost B K h l → ⊥
  two_unknown {B} {K} {p} {q} {u} {v} x y d h l z = go (same_or p q h l) d
    where
      other : {i j : ℕ} → Unknown B K i j → (i ≢ h) ⊎ (j ≢ l) → ⊥
      other {i} {j} w e = w.new (at_hand w.is_lost (z.rest i j w.row_below w.strip_below w.on e))

      go : ((p ≡ h) × (q ≡ l)) ⊎ ((p ≢ h) ⊎ (q ≢ l)) → (p ≢ u) ⊎ (q ≢ v) → ⊥
      go (inr e) f = other x e
      go (inl e) (inl ne) = other y (inl (λ k. ne (e.0 ∙ sym k)))
      go (inl e) (inr ne) = other y (inr (λ k. ne (e.1 ∙ sym k)))

  -- ---- one element more is built
  module _ {B C : ℕ → ℕ → Type 0} {i j : ℕ} (a : Adds B C i j) where
    -- a line that does not go through it gives what it gave
    lone_away : {K : Line} {h l : ℕ} → (On L K i j → ⊥) → Lone L lost C K h l → Lone L lost B K h l
    lone_away {K} {h} {l} off x =
        record {
          live = x.live;
          row_below = x.row_below;
          strip_below = x.strip_below;
          on = x.on;
          is_lost = x.is_lost;
          new = λ y. x.new (a.grows h l y);
          rest = λ p q lp lq o d. known_ext (λ y. back p q o (a.only p q y)) (x.rest p q lp lq o d);
        }
      where
        back : (p q : ℕ) → On L K p q → B p q ⊎ ((p ≡ i) × (q ≡ j)) → B p q
        back p q o (inl y) = y
        back p q o (inr e) = absurd (off (subst (λ (v : ℕ). On L K i v) e.1 (subst (λ (u : ℕ). On L K u q) e.0 o)))

    -- the line that gave it gives nothing more
    pub lone_used : {K : Line} {h l : ℕ} → Lone L lost B K i j → Lone L lost C K h l → ⊥
    lone_used {K} {h} {l} x y = go (same_or h l i j)
      where
        go : ((h ≡ i) × (l ≡ j)) ⊎ ((h ≢ i) ⊎ (l ≢ j)) → ⊥
        go (inl e) = y.new (adds_same a e)
        go (inr d) = y.new (a.grows h l (at_hand y.is_lost (x.rest h l y.row_below y.strip_below y.on d)))

    module _ {K₀ K₁ : Line} (two : (K : Line) → On L K i j → (K ≡ K₀) ⊎ (K ≡ K₁)) (gave : Lone L lost B K₀ i j) where
      -- the chain goes on by the other line through the element until E is built: no line gives what it did not give before
      pub goes_on : {E : ℕ → ℕ → Type 0} → ((h l : ℕ) → Lone L lost E K₁ h l → ⊥)
          → ((K : Line) (h l : ℕ) → Lone L lost E K h l → Lone L lost C K h l) → (K : Line) (h l : ℕ) → Lone L lost E K h l → Lone L lost B K h l
      goes_on {E} none opened K h l x = go (on? L K i j)
        where
          at : (K ≡ K₀) ⊎ (K ≡ K₁) → Lone L lost B K h l
          at (inl e) = absurd (lone_used gave (subst (λ (M : Line). Lone L lost C M h l) e (opened K h l x)))
          at (inr e) = absurd (none h l (subst (λ (M : Line). Lone L lost E M h l) e x))

          go : Dec (On L K i j) → Lone L lost B K h l
          go (yes o) = at (two K o)
          go (no off) = lone_away off (opened K h l x)

      -- the chain ends: the other line gives nothing
      pub ends : ((h l : ℕ) → Lone L lost C K₁ h l → ⊥) → (K : Line) (h l : ℕ) → Lone L lost C K h l → Lone L lost B K h l
      ends none = goes_on none (λ K h l x. x)
