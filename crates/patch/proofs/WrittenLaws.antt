-- Laws of written_over, byte by byte: one data place and its two parities change, and a patch of the whole run leaves just that. Assumes nothing.
use Rattle.std.specs.Prelude.{◌≡◌, ◌≢◌, ◌⊎◌, Bool, List, [], length, get_or, ◌/◌, ◌%◌}
use Rattle.std.proofs.Math.Path.{refl, ap₂}
use Rattle.std.proofs.Common.{sym, ap, ◌∙◌, subst, inl, inr, div-add-mod', arith, ext_get_or, ℕ, ◌+◌, ◌-◌, ◌*◌, ◌≤◌, ◌<◌, lt-ltb, le-ltb, eq-eqb, ne_eqb}
use Rattle.std.proofs.Math.Bool.{true, false}
use Rattle.std.proofs.Math.Decide.{dec_lt}
use Rattle.std.proofs.Math.Arith.{digits_div, digits_mod}
use Rattle.std.proofs.Math.ListN.{get_or-eq_default}
use Rattle.code.specs.Xor.{◌⊕◌, ⊕_assoc, ⊕_self, ⊕_zero, zero_⊕}
use Rattle.code.specs.Sum.{pick}
use Rattle.code.specs.SumLaws.{length_table, get_or_table}
use Rattle.code.specs.Place.{at, inside}
use Rattle.code.specs.Layout.{Layout, Fair, X, H, U, places}
use Rattle.code.specs.LayoutLaws.{X_below, H_below, U_below}
use Rattle.code.specs.Change.{Changed}
use Rattle.code.specs.Lookalikes.{sized_same}
use Rattle.patch.specs.Written.{in_run, written_at, written_over}
use Rattle.patch.specs.Patch.{Patched}
use Rattle.patch.proofs.PatchLaws.{X_not_H, X_not_U, H_not_U, changed_one}

module _ (L : Layout) (e i j o : ℕ) (run s : List ℕ) where
  -- what is added to byte k of the data element and of its two parities
  abbrev pub added_by : ℕ → ℕ
  added_by k = pick (in_run L e i j o run s k) (at s e k (X L i j) ⊕ get_or run (k - o) 0) 0

  run_yes : (k : ℕ) → o ≤ k → k < o + length run → in_run L e i j o run s k ≡ true
  run_yes k lo lk = simp (le-ltb k o lo, lt-ltb k (o + length run) lk)

  run_no : (k : ℕ) → (k < o) ⊎ (o + length run ≤ k) → in_run L e i j o run s k ≡ false
  run_no k (inl l) = simp (lt-ltb k o l)
  run_no k (inr l) = simp (le-ltb k (o + length run) l, le-ltb k o (omega arith))

  -- ---- what stands at each byte

  pub written_length : length (written_over L e i j o run s) ≡ length s
  unfolding written_over
  written_length = length_table (length s) (λ x. written_at L e i j o run s (x % e) (x / e))

  -- byte k of place p, where the buffer has it
  written_byte : (k p : ℕ) → k < e → p * e + k < length s → at (written_over L e i j o run s) e k p ≡ written_at L e i j o run s k p
  unfolding written_over
  written_byte k p lk l =
      get_or_table (length s) (λ x. written_at L e i j o run s (x % e) (x / e)) 0 (p * e + k) l
      ∙ ap₂ (written_at L e i j o run s) (digits_mod p lk) (digits_div p lk)

  -- a place other than the three keeps its bytes
  written_kept : (k p : ℕ) → k < e → p ≢ X L i j → p ≢ H L i → p ≢ U L (L.diagonal i j) → at (written_over L e i j o run s) e k p ≡ at s e k p
  unfolding written_at
  written_kept k p lk nx nh nu = go (dec_lt (p * e + k) (length s))
    where
      same : (t : Bool) → pick t (at s e k p) (at s e k p) ≡ at s e k p
      same true = refl
      same false = refl

      go : Dec (p * e + k < length s) → at (written_over L e i j o run s) e k p ≡ at s e k p
      go (yes l) =
          written_byte k p lk l
          ∙ simp (ne_eqb p (X L i j) nx, ne_eqb p (H L i) nh, ne_eqb p (U L (L.diagonal i j)) nu) (same (in_run L e i j o run s k))
      go (no l) = get_or-eq_default (written_over L e i j o run s) 0 (omega (arith, written_length)) ∙ sym (get_or-eq_default s 0 (omega arith))

  module _ (F : Fair L) (li : i < L.r) (lj : j < L.n) (size : length s ≡ e * places L) where
    -- at every place and byte it is written_at
    pub written_place : (k p : ℕ) → k < e → p < places L → at (written_over L e i j o run s) e k p ≡ written_at L e i j o run s k p
    written_place k p lk lp = written_byte k p lk (omega (arith, inside e p (places L) lp))

    -- ---- it is a change

    -- old ⊕ (old ⊕ new) is new
    replaced : (t : Bool) (a v : ℕ) → pick t v a ≡ a ⊕ pick t (a ⊕ v) 0
    replaced true a v = sym (sym (⊕_assoc a a v) ∙ ap (λ (x : ℕ). x ⊕ v) (⊕_self a) ∙ zero_⊕ v)
    replaced false a v = sym (⊕_zero a)

    added : (t : Bool) (a w : ℕ) → pick t (a ⊕ w) a ≡ a ⊕ pick t w 0
    added true a w = refl
    added false a w = sym (⊕_zero a)

    -- byte k of every place
    pub written_changed : (k : ℕ) → k < e
        → Changed (X L i j) (H L i) (U L (L.diagonal i j)) (added_by k) (at s e k) (at (written_over L e i j o run s) e k)
    unfolding written_at
    written_changed k lk =
        record {
          data_place = written_place k x lk (X_below L i j li lj) ∙ simp (eq-eqb x x refl) (replaced t (at s e k x) v);
          row_place = written_place k h lk (H_below L i li)
              ∙ simp (ne_eqb h x (λ q. X_not_H L F i j li lj (sym q)), eq-eqb h h refl) (added t (at s e k h) (at s e k x ⊕ v));
          diagonal_place = written_place k u lk (U_below L F (L.diagonal i j) (F.diagonal_lt i j li lj))
              ∙ simp (ne_eqb u x (λ q. X_not_U L F i j li lj (sym q)), ne_eqb u h (λ q. H_not_U L F i j li lj (sym q)), eq-eqb u u refl)
              (added t (at s e k u) (at s e k x ⊕ v));
          rest = λ p nx nh nu. written_kept k p lk nx nh nu;
        }
      where
        x : ℕ
        x = X L i j

        h : ℕ
        h = H L i

        u : ℕ
        u = U L (L.diagonal i j)

        v : ℕ
        v = get_or run (k - o) 0

        t : Bool
        t = in_run L e i j o run s k

    -- ---- and what a patch of the whole run leaves

    patched_changed : (y : List ℕ) → Patched e (X L i j) (H L i) (U L (L.diagonal i j)) o (length run) (λ k. get_or run (k - o) 0) s y
        → (k : ℕ) → k < e → Changed (X L i j) (H L i) (U L (L.diagonal i j)) (added_by k) (at s e k) (at y e k)
    patched_changed y p k lk = go (dec_lt k o) (dec_lt k (o + length run))
      where
        by : ℕ → Type 0
        by b = Changed (X L i j) (H L i) (U L (L.diagonal i j)) b (at s e k) (at y e k)

        sum : Bool → ℕ
        sum t = pick t (at s e k (X L i j) ⊕ get_or run (k - o) 0) 0

        none : (k < o) ⊎ (o + length run ≤ k) → by (added_by k)
        none z =
            subst by (sym (ap sum (run_no k z)))
            (record {
              data_place = p.outside (X L i j) k lk z ∙ sym (⊕_zero (at s e k (X L i j)));
              row_place = p.outside (H L i) k lk z ∙ sym (⊕_zero (at s e k (H L i)));
              diagonal_place = p.outside (U L (L.diagonal i j)) k lk z ∙ sym (⊕_zero (at s e k (U L (L.diagonal i j))));
              rest = λ q nx nh nu. p.outside q k lk z;
            })

        go : Dec (k < o) → Dec (k < o + length run) → by (added_by k)
        go (yes a) b = none (inl a)
        go (no a) (no b) = none (inr (omega arith))
        go (no a) (yes b) = subst by (sym (ap sum (run_yes k (omega arith) b))) (p.inside k (omega arith) b)

    pub patched_written : (y : List ℕ) → Patched e (X L i j) (H L i) (U L (L.diagonal i j)) o (length run) (λ k. get_or run (k - o) 0) s y
        → y ≡ written_over L e i j o run s
    patched_written y p =
        sized_same L e y (written_over L e i j o run s) (p.long ∙ size) (written_length ∙ size)
        (λ k lk. record { all = λ q lq. changed_one (patched_changed y p k lk) (written_changed k lk) q })

-- an empty run leaves the buffer as it was
pub written_empty : (L : Layout) (e i j o : ℕ) (s : List ℕ) → written_over L e i j o [] s ≡ s
unfolding written_over written_at
written_empty L e i j o s =
    ext_get_or 0 (written_over L e i j o [] s) s (written_length L e i j o [] s)
    (λ x lx. let l : x < length s = omega (arith, written_length L e i j o [] s) in go x l)
  where
    off : (k : ℕ) → Dec (k < o) → (k < o) ⊎ (o + 0 ≤ k)
    off k (yes l) = inl l
    off k (no l) = inr (omega arith)

    go : (x : ℕ) → x < length s → get_or (written_over L e i j o [] s) x 0 ≡ get_or s x 0
    go x l =
        get_or_table (length s) (λ z. written_at L e i j o [] s (z % e) (z / e)) 0 x l
        ∙ simp (run_no L e i j o [] s (x % e) (off (x % e) (dec_lt (x % e) o))) (ap (λ (z : ℕ). get_or s z 0) (div-add-mod' x e))
