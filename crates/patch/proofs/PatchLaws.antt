-- The steps of a write: three additions are a patch, a patch after a patch is one, and a change leaves no byte open. Assumes nothing.
use Rattle.std.specs.Prelude.{◌≡◌, refl, ◌≢◌, List, ◌++◌, ℕ, ◌+◌, ◌*◌, ◌-◌, ◌≤◌, ◌<◌, length, get_or, replicate, take, drop}
use Rattle.std.proofs.Common.{sym, ap, ap₂, ◌∙◌, subst, inl, inr, ⊎_elim, le_antisymm, arith, get_or-take, length-take-le}
use Rattle.std.proofs.Math.Decide.{ℕ_discrete, dec_lt}
use Rattle.std.proofs.lemmas.List.{length-replicate, get_or-drop}
use Rattle.std.proofs.Math.ListN.{get_or-append}
use Rattle.code.specs.Xor.{◌⊕◌}
use Rattle.code.specs.Place.{at, inside, same_row, same_strip}
use Rattle.code.specs.Layout.{Layout, Fair, height, X, H, U, places}
use Rattle.code.specs.LayoutLaws.{X_below, H_below, U_below}
use Rattle.code.specs.Change.{Changed, changed_same}
use Rattle.element.specs.Filled.{Filled}
use Rattle.element.specs.FilledLaws.{filled_begins}
use Rattle.element.specs.Placed.{AddedAt}
use Rattle.element.specs.PlacedLaws.{filled_added_at}
use Rattle.patch.specs.declared.Touched.{Touched}
use Rattle.patch.specs.Patch.{Touches, Spots, Patched}

-- ---- the places

module _ (L : Layout) (F : Fair L) (i j : ℕ) (li : i < L.r) (lj : j < L.n) where
  -- data, its H and its U stand at three places
  pub X_not_H : X L i j ≢ H L i
  X_not_H q = let z = same_strip (height L) i j i L.n (omega arith) (omega arith) q in omega arith

  pub X_not_U : X L i j ≢ U L (L.diagonal i j)
  X_not_U q = let z = same_row (height L) i j L.r (L.home (L.diagonal i j)) (omega arith) (omega arith) q in omega arith

  pub H_not_U : H L i ≢ U L (L.diagonal i j)
  H_not_U q = let z = same_row (height L) i L.n L.r (L.home (L.diagonal i j)) (omega arith) (omega arith) q in omega arith

  layout_spots : (e : ℕ) (s : List ℕ) → length s ≡ e * places L → Spots s e (X L i j) (H L i) (U L (L.diagonal i j))
  layout_spots e s l =
      record {
        x_fits = omega (arith, inside e (X L i j) (places L) (X_below L i j li lj));
        h_fits = omega (arith, inside e (H L i) (places L) (H_below L i li));
        u_fits = omega (arith, inside e (U L (L.diagonal i j)) (places L) (U_below L F (L.diagonal i j) (F.diagonal_lt i j li lj)));
        x_h = X_not_H;
        x_u = X_not_U;
        h_u = H_not_U;
      }

  -- what a write touches, in any buffer as long as the stripe
  pub touches_spots : (e : ℕ) (s b : List ℕ) (t : Touched) → length b ≡ e * places L → length s ≡ length b → Touches L i j t
      → Spots s e t.x t.h t.u
  touches_spots e s b t l m p =
      subst (λ (x : ℕ). Spots s e x t.h t.u) (sym p.x_is)
      (subst (λ (h : ℕ). Spots s e (X L i j) h t.u) (sym p.h_is)
      (subst (λ (u : ℕ). Spots s e (X L i j) (H L i) u) (sym p.u_is) (layout_spots e s (m ∙ l))))

  -- a patch there is a patch at data, H and U
  pub touches_patched : (e o m : ℕ) (w : ℕ → ℕ) (s b : List ℕ) (t : Touched) → Touches L i j t → Patched e t.x t.h t.u o m w s b
      → Patched e (X L i j) (H L i) (U L (L.diagonal i j)) o m w s b
  touches_patched e o m w s b t p q =
      subst (λ (x : ℕ). Patched e x (H L i) (U L (L.diagonal i j)) o m w s b) p.x_is
      (subst (λ (h : ℕ). Patched e t.x h (U L (L.diagonal i j)) o m w s b) p.h_is
      (subst (λ (u : ℕ). Patched e t.x t.h u o m w s b) p.u_is q))

-- ---- one block

-- the first m bytes of a block
pub block_length : (m : ℕ) (f : ℕ → ℕ) (d : List ℕ) → m ≤ 128 → Filled (replicate 128 0) 0 m f d → length (take m d) ≡ m
block_length m f d l p = length-take-le m d (omega (arith, p.long, length-replicate {A = ℕ} 128 0))

-- the same patch where the new bytes are the same
pub patched_new : (e x h u o m : ℕ) (w v : ℕ → ℕ) (s t : List ℕ) → ((k : ℕ) → o ≤ k → k < o + m → w k ≡ v k)
    → Patched e x h u o m w s t → Patched e x h u o m v s t
patched_new e x h u o m w v s t q p =
    record {
      long = p.long;
      inside = λ k lo lk. subst (λ (b : ℕ). Changed x h u (at s e k x ⊕ b) (at s e k) (at t e k)) (q k lo lk) (p.inside k lo lk);
      outside = p.outside;
    }

module _ (e x h u o : ℕ) where
  -- old ⊕ new added at three places
  patched_sums : (m : ℕ) (w b : ℕ → ℕ) (s t v y : List ℕ) → x ≢ h → x ≢ u → h ≢ u → o + m ≤ e
      → ((k : ℕ) → o ≤ k → k < o + m → b k ≡ at s e k x ⊕ w k)
      → AddedAt s e x o m b t → AddedAt t e h o m b v → AddedAt v e u o m b y → Patched e x h u o m w s y
  patched_sums m w b s t v y xh xu hu f old p q g =
      record {
        long = g.long ∙ q.long ∙ p.long;
        inside = λ k lo lk. record {
          data_place = g.there x k (omega arith) xu ∙ q.there x k (omega arith) xh ∙ p.here k lo lk ∙ ap (λ (z : ℕ). at s e k x ⊕ z) (old k lo lk);
          row_place = g.there h k (omega arith) hu ∙ q.here k lo lk ∙ ap₂ ◌⊕◌ (p.there h k (omega arith) (λ z. xh (sym z))) (old k lo lk);
          diagonal_place = g.here k lo lk
              ∙ ap₂ ◌⊕◌ (q.there u k (omega arith) (λ z. hu (sym z)) ∙ p.there u k (omega arith) (λ z. xu (sym z))) (old k lo lk);
          rest = λ c nx nh nu. g.there c k (omega arith) nu ∙ q.there c k (omega arith) nh ∙ p.there c k (omega arith) nx;
        };
        outside = λ c k lk z. g.aside c k lk z ∙ q.aside c k lk z ∙ p.aside c k lk z;
      }

  -- the same from what the code does: old ⊕ new taken at x into a block d, and its first m bytes added at all three
  pub patched_fills : (m c : ℕ) (s v d t₁ t₂ t₃ : List ℕ) → Spots s e x h u → o + m ≤ e → m ≤ 128
      → Filled (replicate 128 0) 0 m (λ k. get_or s (x * e + o + k) 0 ⊕ get_or v (c + k) 0) d
      → Filled s (x * e + o) (length (take m d)) (λ k. get_or s (x * e + o + k) 0 ⊕ get_or (take m d) k 0) t₁
      → Filled t₁ (h * e + o) (length (take m d)) (λ k. get_or t₁ (h * e + o + k) 0 ⊕ get_or (take m d) k 0) t₂
      → Filled t₂ (u * e + o) (length (take m d)) (λ k. get_or t₂ (u * e + o + k) 0 ⊕ get_or (take m d) k 0) t₃
      → Patched e x h u o m (λ k. get_or v (c + (k - o)) 0) s t₃
  patched_fills m c s v d t₁ t₂ t₃ z f lm old p q g =
      patched_sums m (λ k. get_or v (c + (k - o)) 0) (λ k. get_or (take m d) (k - o) 0) s t₁ t₂ t₃ z.x_h z.x_u z.h_u f delta
      (placed x s t₁ p) (placed h t₁ t₂ q) (placed u t₂ t₃ g)
    where
      placed : (y : ℕ) (a b : List ℕ) → Filled a (y * e + o) (length (take m d)) (λ k. get_or a (y * e + o + k) 0 ⊕ get_or (take m d) k 0) b
          → AddedAt a e y o m (λ k. get_or (take m d) (k - o) 0) b
      placed y a b w =
          filled_added_at a e y o m (y * e + o) (λ k. get_or (take m d) k 0) b refl f
          (subst (λ (l : ℕ). Filled a (y * e + o) l (λ k. get_or a (y * e + o + k) 0 ⊕ get_or (take m d) k 0) b) (block_length m _ d lm old) w)

      delta : (k : ℕ) → o ≤ k → k < o + m → get_or (take m d) (k - o) 0 ≡ at s e k x ⊕ get_or v (c + (k - o)) 0
      delta k lo lk =
          let i : x * e + o + (k - o) ≡ x * e + k = omega arith in
          get_or-take m d (k - o) 0 (omega arith)
          ∙ (filled_begins (replicate 128 0) m (λ l. get_or s (x * e + o + l) 0 ⊕ get_or v (c + l) 0) d old).each (k - o) (omega arith)
          ∙ ap (λ (l : ℕ). get_or s l 0 ⊕ get_or v (c + (k - o)) 0) i

  -- ---- block after block

  pub patched_none : (w : ℕ → ℕ) (s : List ℕ) → Patched e x h u o 0 w s s
  patched_none w s = record { long = refl; inside = λ k lo lk. absurd (omega arith); outside = λ c k lk z. refl }

  -- the first c bytes of the run v, and after them m more
  pub patched_more : (c m : ℕ) (v s t y : List ℕ) → o + (c + m) ≤ e → Patched e x h u o c (λ k. get_or v (k - o) 0) s t
      → Patched e x h u (o + c) m (λ k. get_or v (c + (k - (o + c))) 0) t y → Patched e x h u o (c + m) (λ k. get_or v (k - o) 0) s y
  patched_more c m v s t y f p q =
      record {
        long = q.long ∙ p.long;
        inside = λ k lo lk. go k lo lk (dec_lt k (o + c));
        outside = λ a k lk z.
            q.outside a k lk (⊎_elim (λ (b : k < o). inl (omega arith)) (λ (b : o + (c + m) ≤ k). inr (omega arith)) z)
            ∙ p.outside a k lk (⊎_elim (λ (b : k < o). inl b) (λ (b : o + (c + m) ≤ k). inr (omega arith)) z);
      }
    where
      new : ℕ → ℕ
      new k = get_or v (k - o) 0

      go : (k : ℕ) → o ≤ k → k < o + (c + m) → Dec (k < o + c) → Changed x h u (at s e k x ⊕ get_or v (k - o) 0) (at s e k) (at y e k)
      go k lo lk (yes z) =
          changed_same x h u (at s e k x ⊕ new k) (at s e k x ⊕ new k) (at s e k) (at s e k) (at t e k) (at y e k) refl (λ a. refl)
          (λ a. q.outside a k (omega arith) (inl z)) (p.inside k lo z)
      go k lo lk (no n) =
          let z : o + c ≤ k = omega arith in
          let i : c + (k - (o + c)) ≡ k - o = omega arith in
          changed_same x h u (at t e k x ⊕ get_or v (c + (k - (o + c))) 0) (at s e k x ⊕ new k) (at t e k) (at s e k) (at y e k) (at y e k)
          (ap₂ ◌⊕◌ (p.outside x k (omega arith) (inr z)) (ap (λ (l : ℕ). get_or v l 0) i))
          (λ a. sym (p.outside a k (omega arith) (inr z)))
          (λ a. refl) (q.inside k z (omega arith))

  -- the same of a block w that the run v has there
  pub patched_block : (c : ℕ) (v w z s t y : List ℕ) → drop c v ≡ w ++ z → o + (c + length w) ≤ e → Patched e x h u o c (λ k. get_or v (k - o) 0) s t
      → Patched e x h u (o + c) (length w) (λ k. get_or w (k - (o + c)) 0) t y → Patched e x h u o (c + length w) (λ k. get_or v (k - o) 0) s y
  patched_block c v w z s t y cut f p q = patched_more c (length w) v s t y f p (patched_new e x h u (o + c) (length w) _ _ t y here q)
    where
      here : (k : ℕ) → o + c ≤ k → k < o + c + length w → get_or w (k - (o + c)) 0 ≡ get_or v (c + (k - (o + c))) 0
      here k lo lk =
          sym (get_or-append w z 0 (k - (o + c)) (omega arith))
          ∙ ap (λ (l : List ℕ). get_or l (k - (o + c)) 0) (sym cut)
          ∙ get_or-drop c v (k - (o + c)) 0
          ∙ ap (λ (i : ℕ). get_or v i 0) (omega arith)

  -- a loop's end: l is at most m and not below it
  pub patched_all : (l m : ℕ) (w : ℕ → ℕ) (s t : List ℕ) → l ≤ m → m ≤ l → Patched e x h u o l w s t → Patched e x h u o m w s t
  patched_all l m w s t b c p = subst (λ (n : ℕ). Patched e x h u o n w s t) (le_antisymm b c) p

-- ---- a change leaves no byte open

pub changed_one : {x h u b : ℕ} {f g y : ℕ → ℕ} → Changed x h u b f g → Changed x h u b f y → (p : ℕ) → g p ≡ y p
changed_one {x} {h} {u} {b} {f} {g} {y} c d p = go (ℕ_discrete p x) (ℕ_discrete p h) (ℕ_discrete p u)
  where
    go : Dec (p ≡ x) → Dec (p ≡ h) → Dec (p ≡ u) → g p ≡ y p
    go (yes q) m n = subst (λ (z : ℕ). g z ≡ y z) (sym q) (c.data_place ∙ sym d.data_place)
    go (no l) (yes q) n = subst (λ (z : ℕ). g z ≡ y z) (sym q) (c.row_place ∙ sym d.row_place)
    go (no l) (no m) (yes q) = subst (λ (z : ℕ). g z ≡ y z) (sym q) (c.diagonal_place ∙ sym d.diagonal_place)
    go (no l) (no m) (no n) = c.rest p l m n ∙ sym (d.rest p l m n)
