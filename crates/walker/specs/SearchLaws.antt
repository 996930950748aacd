-- From flags in hand to the element that a row or a diagonal gives, or that it gives none. Assumes nothing.
use Rattle.std.specs.Prelude.{ℕ, suc, ◌+◌, ◌<◌, ◌≡◌, refl, List, [], ◌∷◌, Bool, true, false, ◌≢◌, ◌⊎◌, ◌&&◌, length, get_or, take}
use Rattle.std.proofs.Common.{sym, ap, ◌∙◌, inl, inr, arith}
use Rattle.std.proofs.Math.Decide.{ℕ_discrete, dec_lt}
use Rattle.std.proofs.lemmas.List.{get_or-take}
use Rattle.std.proofs.lemmas.List.Sums.{AllPass-from_list_all}
use Rattle.std.specs.List.{list_all}
use Rattle.code.specs.SumLaws.{clash}
use Rattle.code.specs.Layout.{Layout, Fair, pair}
use Rattle.code.specs.LayoutLaws.{pair_no}
use Rattle.code.specs.Live.{diagonal, Lone}
use Rattle.code.specs.LiveLaws.{known_of}
use Rattle.walker.specs.Flags.{flag, Marked, unset, is_set}
use Rattle.walker.specs.Search.{Passed, NextAt, Gap, StripBuilt}

-- ---- a diagonal

-- its parity stands on strip x
pub on_kept : (a b : ℕ) {x y : ℕ} → y ≡ x → y ≢ a → y ≢ b → pair a b x ≡ false
on_kept a b {x} e na nb = pair_no a b x (λ z. na (e ∙ z)) (λ z. nb (e ∙ z))

module _ {L : Layout} {lost : ℕ → Bool} {g : List (List Bool)} {d : ℕ} where
  pub diagonal_one : Fair L → {i j : ℕ} → lost (L.home d) ≡ false → NextAt L.diagonal L.n L.r lost g d 0 i j
      → Passed L.diagonal L.n lost g d (i + 1) L.r → Lone L lost (Marked g) (diagonal d) i j
  diagonal_one F {i} {j} live x p =
      record {
        live = live;
        row_below = x.row_below;
        strip_below = x.strip_below;
        on = x.on;
        is_lost = x.is_lost;
        new = x.new;
        rest = λ h l lh ll o z. known_of lost (Marked g) h l (λ e. go h l lh ll o z e (ℕ_discrete h i) (dec_lt h i));
      }
    where
      -- a row meets a diagonal once
      once : (h l : ℕ) → h ≡ i → l < L.n → L.diagonal h l ≡ d → l ≡ j
      once h l e ll o =
          sym (F.meets_diagonal i l x.row_below ll) ∙ ap (L.meets i) (ap (λ (y : ℕ). L.diagonal y l) (sym e) ∙ o ∙ sym x.on)
          ∙ F.meets_diagonal i j x.row_below x.strip_below

      same : (h l : ℕ) → (h ≢ i) ⊎ (l ≢ j) → h ≡ i → l ≡ j → ⊥
      same h l (inl ne) e f = ne e
      same h l (inr ne) e f = ne f

      go : (h l : ℕ) → h < L.r → l < L.n → L.diagonal h l ≡ d → (h ≢ i) ⊎ (l ≢ j) → lost l ≡ true → Dec (h ≡ i) → Dec (h < i) → Marked g h l
      go h l lh ll o z e (yes k) m = absurd (same h l z k (once h l k ll o))
      go h l lh ll o z e (no ne) (yes k) = x.before.marked h l (omega arith) k ll e o
      go h l lh ll o z e (no ne) (no k) = p.marked h l (omega arith) lh ll e o

-- ---- a strip

-- an element that the test fails
fails_at : {X : Type 0} (p : X → Bool) (xs : List X) (d : X) → list_all p xs ≡ false → (i : ℕ) × (i < length xs) × (p (get_or xs i d) ≡ false)
fails_at p [] d e = clash (sym e)
fails_at {X} p (x ∷ xs) d e = go (p x) refl (fails_at p xs d)
  where
    go : (t : Bool) → p x ≡ t → (list_all p xs ≡ false → (i : ℕ) × (i < length xs) × (p (get_or xs i d) ≡ false))
        → (i : ℕ) × (i < length (x ∷ xs)) × (p (get_or (x ∷ xs) i d) ≡ false)
    go false q rest = (0, omega arith, q)
    go true q rest = later (rest (sym (ap (λ (t : Bool). t && list_all p xs) q) ∙ e))
      where
        later : (i : ℕ) × (i < length xs) × (p (get_or xs i d) ≡ false) → (i : ℕ) × (i < length (x ∷ xs)) × (p (get_or (x ∷ xs) i d) ≡ false)
        later f = (suc f.0, omega (arith, f.1), f.2)

-- each of the first r rows is asked for its flag
pub strip_all : {n r c : ℕ} {g : List (List Bool)} {t : Bool} → c < n → length (take r g) ≡ r
    → t ≡ list_all (λ (x : List Bool). get_or x c false) (take r g) → StripBuilt n r g c t
strip_all {n} {r} {c} {g} {t} lc z e =
    record {
      all = λ q l i li. is_set (sym (there i li) ∙ AllPass-from_list_all at (take r g) (sym e ∙ q) i [] (omega arith));
      some = λ q. left (fails_at at (take r g) [] (sym e ∙ q));
    }
  where
    at : List Bool → Bool
    at x = get_or x c false

    there : (i : ℕ) → i < r → at (get_or (take r g) i []) ≡ flag g i c
    there i li = ap at (get_or-take r g i [] li)

    left : (i : ℕ) × (i < length (take r g)) × (at (get_or (take r g) i []) ≡ false) → Gap n r g c
    left f =
        let l : f.0 < r = omega (arith, f.1) in
        record { row = f.0; row_below = l; strip_below = lc; new = unset (sym (there f.0 l) ∙ f.2) }
