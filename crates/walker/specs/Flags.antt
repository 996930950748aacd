-- The flags of the elements that are built, 32 rows of 32, and how many lost elements are not flagged. Assumes nothing.
-- g == the flags, rows by strips
use Rattle.std.specs.Prelude.{ℕ, zero, suc, ◌+◌, ◌<◌, ◌≤◌, ◌≡◌, refl, List, [], Bool, true, false, ◌≢◌, ◌⊎◌, not, length, get_or, set, replicate}
use Rattle.std.proofs.Common.{sym, ap, ◌∙◌, inl, inr, arith, length-set, get_or-set_same, get_or-set_other}
use Rattle.std.proofs.Math.Decide.{ℕ_discrete}
use Rattle.std.proofs.lemmas.List.{get_or-replicate}
use Rattle.code.specs.Sum.{only}
use Rattle.code.specs.SumLaws.{clash}
use Rattle.code.specs.Layout.{Layout, pair}
use Rattle.code.specs.LayoutLaws.{pair_no}
use Rattle.code.specs.LiveLaws.{same_or, Adds}
use Rattle.walker.specs.Tally.{total, total_le, total_less, total_term, total_most, total_least, total_two}

-- the flag of row i and strip j
abbrev pub flag : List (List Bool) → ℕ → ℕ → Bool
flag g i j = get_or (get_or g i []) j false

-- the element of row i in strip j is flagged as built
pub record Marked (g : List (List Bool)) (i j : ℕ) : Type 0 where
  pub set : flag g i j ≡ true

-- 32 rows of 32, enough for the layout
pub record Board (L : Layout) (g : List (List Bool)) : Type 0 where
  pub rows : L.r ≤ 32
  pub strips : L.n ≤ 32
  pub all : length g ≡ 32
  pub each : (i : ℕ) → i < 32 → length (get_or g i []) ≡ 32

-- the flags with one more
abbrev pub put : List (List Bool) → ℕ → ℕ → List (List Bool)
put g i j = set g i (set (get_or g i []) j true)

-- 1 where the flag is not set
abbrev pub blank : List (List Bool) → ℕ → ℕ → ℕ
blank g i j = only (not (flag g i j)) 1

-- how many lost elements of the rows 0 .. r - 1 are not flagged: data, and H where strip n is lost
unfoldable pub unknowns : Layout → (ℕ → Bool) → List (List Bool) → ℕ
unknowns L lost g = total (L.n + 1) (λ j. only (lost j) (total L.r (λ i. blank g i j)))

-- no flag is set
abbrev pub clear : List (List Bool)
clear = replicate 32 (replicate 32 false)

-- ---- a flag that was read

pub unset : {g : List (List Bool)} {i j : ℕ} → flag g i j ≡ false → Marked g i j → ⊥
unset e m = clash (sym e ∙ m.set)

pub is_set : {g : List (List Bool)} {i j : ℕ} → flag g i j ≡ true → Marked g i j
is_set e = record { set = e }

-- ---- one flag more

module _ {L : Layout} {g : List (List Bool)} (z : Board L g) {i j : ℕ} (li : i < L.r) (lj : j < L.n) where
  in_row : get_or (put g i j) i [] ≡ set (get_or g i []) j true
  in_row = get_or-set_same g i (set (get_or g i []) j true) [] (omega (arith, z.all, z.rows))

  other_row : (k : ℕ) → k ≢ i → get_or (put g i j) k [] ≡ get_or g k []
  other_row k ne = get_or-set_other g i k (set (get_or g i []) j true) [] ne

  pub put_board : Board L (put g i j)
  put_board =
      record {
        rows = z.rows;
        strips = z.strips;
        all = length-set g i (set (get_or g i []) j true) ∙ z.all;
        each = λ k h. go k h (ℕ_discrete k i);
      }
    where
      go : (k : ℕ) → k < 32 → Dec (k ≡ i) → length (get_or (put g i j) k []) ≡ 32
      go k h (yes e) =
          ap (λ (x : ℕ). length (get_or (put g i j) x [])) e ∙ ap length in_row ∙ length-set (get_or g i []) j true ∙ z.each i (omega arith)
      go k h (no ne) = ap length (other_row k ne) ∙ z.each k h

  put_here : flag (put g i j) i j ≡ true
  put_here =
      ap (λ (l : List Bool). get_or l j false) in_row
      ∙ get_or-set_same (get_or g i []) j true false (omega (arith, z.each i (omega (arith, z.rows)), z.strips))

  put_else : (h l : ℕ) → (h ≢ i) ⊎ (l ≢ j) → flag (put g i j) h l ≡ flag g h l
  put_else h l d = go d (ℕ_discrete h i)
    where
      go : (h ≢ i) ⊎ (l ≢ j) → Dec (h ≡ i) → flag (put g i j) h l ≡ flag g h l
      go d (no ne) = ap (λ (x : List Bool). get_or x l false) (other_row h ne)
      go (inl ne) (yes e) = absurd (ne e)
      go (inr ne) (yes e) =
          ap (λ (x : ℕ). flag (put g i j) x l) e ∙ ap (λ (x : List Bool). get_or x l false) in_row
          ∙ get_or-set_other (get_or g i []) j l true false ne ∙ ap (λ (x : ℕ). flag g x l) (sym e)

  pub put_adds : Adds (Marked g) (Marked (put g i j)) i j
  put_adds =
      record {
        grows = λ x y m. grows x y m (same_or x y i j);
        here = record { set = put_here };
        only = λ x y m. only' x y m (same_or x y i j);
      }
    where
      grows : (x y : ℕ) → Marked g x y → ((x ≡ i) × (y ≡ j)) ⊎ ((x ≢ i) ⊎ (y ≢ j)) → Marked (put g i j) x y
      grows x y m (inl e) = record { set = ap (λ (v : ℕ). flag (put g i j) x v) e.1 ∙ ap (λ (u : ℕ). flag (put g i j) u j) e.0 ∙ put_here }
      grows x y m (inr d) = record { set = put_else x y d ∙ m.set }

      only' : (x y : ℕ) → Marked (put g i j) x y → ((x ≡ i) × (y ≡ j)) ⊎ ((x ≢ i) ⊎ (y ≢ j)) → Marked g x y ⊎ ((x ≡ i) × (y ≡ j))
      only' x y m (inl e) = inr e
      only' x y m (inr d) = inl (record { set = sym (put_else x y d) ∙ m.set })

-- ---- no flag

false_at : (k j : ℕ) → get_or (replicate k false) j false ≡ false
false_at zero j = refl
false_at (suc k) zero = refl
false_at (suc k) (suc j) = false_at k j

false_rows : (k i j : ℕ) → flag (replicate k (replicate 32 false)) i j ≡ false
false_rows zero i j = refl
false_rows (suc k) zero j = false_at 32 j
false_rows (suc k) (suc i) j = false_rows k i j

pub clear_unmarked : (i j : ℕ) → Marked clear i j → ⊥
clear_unmarked i j = unset (false_rows 32 i j)

pub clear_board : (L : Layout) → L.r ≤ 32 → L.n ≤ 32 → Board L clear
clear_board L lr ln = record { rows = lr; strips = ln; all = refl; each = λ i h. ap length (get_or-replicate 32 i (replicate 32 false) [] h) }

-- ---- counting

blank_most : (g : List (List Bool)) (i j : ℕ) → blank g i j ≤ 1
blank_most g i j = go (flag g i j)
  where
    go : (t : Bool) → only (not t) 1 ≤ 1
    go true = omega arith
    go false = omega arith

blank_marked : {g : List (List Bool)} {i j : ℕ} → Marked g i j → blank g i j ≡ 0
blank_marked m = ap (λ (t : Bool). only (not t) 1) m.set

blank_new : {g : List (List Bool)} {i j : ℕ} → (Marked g i j → ⊥) → blank g i j ≡ 1
blank_new {g} {i} {j} new = go (flag g i j) refl
  where
    go : (t : Bool) → flag g i j ≡ t → blank g i j ≡ 1
    go true e = absurd (new (record { set = e }))
    go false e = ap (λ (t : Bool). only (not t) 1) e

blank_le : {g f : List (List Bool)} {i j : ℕ} → (Marked g i j → Marked f i j) → blank f i j ≤ blank g i j
blank_le {g} {f} {i} {j} grows = go (flag g i j) refl
  where
    go : (t : Bool) → flag g i j ≡ t → blank f i j ≤ blank g i j
    go true e = omega (arith, blank_marked (grows (record { set = e })))
    go false e = omega (arith, blank_most f i j, blank_new {g = g} {i = i} {j = j} (unset e))

only_le : (t : Bool) (v w : ℕ) → v ≤ w → only t v ≤ only t w
only_le true v w l = l
only_le false v w l = omega arith

only_at : (t : Bool) (v : ℕ) → t ≡ true → only t v ≡ v
only_at t v e = ap (λ (u : Bool). only u v) e

-- the number of unknown elements falls
pub unknowns_fall : (L : Layout) (lost : ℕ → Bool) (g f : List (List Bool)) (i j : ℕ) → Adds (Marked g) (Marked f) i j
    → i < L.r → j < L.n → lost j ≡ true → (Marked g i j → ⊥) → unknowns L lost f < unknowns L lost g
unfolding unknowns
unknowns_fall L lost g f i j a li lj e new =
    total_less (L.n + 1) (λ y. only (lost y) (strip f y)) (λ y. only (lost y) (strip g y))
    (λ y ly. only_le (lost y) (strip f y) (strip g y) (total_le L.r (λ x. blank f x y) (λ x. blank g x y) (λ x lx. blank_le (a.grows x y))))
    j (omega arith)
    (omega (
      arith,
      only_at (lost j) (strip f j) e,
      only_at (lost j) (strip g j) e,
      total_less L.r (λ x. blank f x j) (λ x. blank g x j) (λ x lx. blank_le (a.grows x j)) i li (omega (arith, blank_marked a.here, blank_new new)),
    ))
  where
    strip : List (List Bool) → ℕ → ℕ
    strip x y = total L.r (λ u. blank x u y)

-- two lost strips leave 2 r unknown at most
pub unknowns_most : (L : Layout) (a b : ℕ) (g : List (List Bool)) → unknowns L (pair a b) g ≤ L.r + L.r
unfolding unknowns
unknowns_most L a b g =
    total_two (L.n + 1) (λ j. only (pair a b j) (strip j)) L.r a b (λ j. small (pair a b j) (total_most L.r (λ i. blank g i j) (λ i l. blank_most g i j)))
    (λ j lj na nb. ap (λ (t : Bool). only t (strip j)) (pair_no a b j na nb))
  where
    strip : ℕ → ℕ
    strip j = total L.r (λ i. blank g i j)

    small : (t : Bool) {v : ℕ} → v ≤ L.r → only t v ≤ L.r
    small true l = l
    small false l = omega arith

-- the elements of a lost strip without flags are all unknown
pub unknowns_strip : (L : Layout) (lost : ℕ → Bool) (g : List (List Bool)) (j : ℕ) → j ≤ L.n → lost j ≡ true → ((i : ℕ) → Marked g i j → ⊥)
    → L.r ≤ unknowns L lost g
unfolding unknowns
unknowns_strip L lost g j lj e none =
    omega (
      arith,
      total_term (L.n + 1) (λ y. only (lost y) (total L.r (λ i. blank g i y))) j (omega arith),
      only_at (lost j) (total L.r (λ i. blank g i j)) e,
      total_least L.r (λ i. blank g i j) (λ i li. omega (arith, blank_new (none i))),
    )
