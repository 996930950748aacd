-- How a strip is filled: it is one run of bytes, and that run was filled; which leaves no byte open. Assumes nothing.
-- j == the strip    m == the rows it stores; they stand at the places from j (r + 1) on
use Rattle.std.specs.Prelude.{◌≡◌, ◌≢◌, ◌⊎◌, List, ℕ, ◌+◌, ◌-◌, ◌*◌, ◌≤◌, ◌<◌, length, get_or}
use Rattle.std.proofs.Common.{sym, ap, ◌∙◌, subst, inl, inr, mul-le-mul, add-mul, mul_comm, le_refl, mod-lt, div-add-mod', arith}
use Rattle.std.proofs.Math.Decide.{ℕ_discrete, dec_lt}
use Rattle.std.proofs.Math.Arith.{digits_lt}
use Rattle.code.specs.Place.{strip_of, row_of, place_strip, before, at}
use Rattle.code.specs.Layout.{Layout, height, places}
use Rattle.code.specs.Lookalikes.{sized_same}
use Rattle.element.specs.Filled.{Filled}
use Rattle.rebuild.specs.Clear.{Rows, FillsStrip}

module _ (L : Layout) (e j m : ℕ) (lj : j ≤ L.n) (w : Rows L j m) where
  -- the strip ends inside the stripe
  within : j * height L + m ≤ places L
  within = go (dec_lt j L.n)
    where
      go : Dec (j < L.n) → j * height L + m ≤ places L
      go (yes l) = omega (arith, w.before_n l, before (height L) j L.n l)
      go (no l) = omega (arith, w.last (omega arith), mul-le-mul lj (le_refl (height L)))

  most : m ≤ height L
  most = go (dec_lt j L.n)
    where
      go : Dec (j < L.n) → m ≤ height L
      go (yes l) = omega (arith, w.before_n l)
      go (no l) = omega (arith, w.last (omega arith))

  -- every row of the strip that the stripe has is among the m
  all : (i : ℕ) → i < height L → j * height L + i < places L → i < m
  all i li l = go (dec_lt j L.n)
    where
      go : Dec (j < L.n) → i < m
      go (yes h) = omega (arith, w.before_n h)
      go (no h) = omega (arith, w.last (omega arith), ap (λ (x : ℕ). x * height L) same)
        where
          same : j ≡ L.n
          same = omega arith

  run_ends : (j * height L + m) * e ≡ j * height L * e + m * e
  run_ends = add-mul (j * height L) m e

  -- what the loop asks
  pub clear_inside : (s : List ℕ) → length s ≡ e * places L → j * height L * e + m * e ≤ length s
  clear_inside s size = omega (arith, run_ends, mul-le-mul within (le_refl e), mul_comm e (places L))

  -- where the bytes of a stripe stand: what holds of every byte of the run holds of every byte of the strip
  pub strip_run : (P : ℕ → Type 0) → ((u : ℕ) → u < m * e → P (j * height L * e + u)) → (p k : ℕ) → p < places L → k < e → strip_of (height L) p ≡ j → P (p * e + k)
  strip_run P h p k lp lk q =
      here (row_of (height L) p) (mod-lt p (omega arith)) (sym (div-add-mod' p (height L)) ∙ ap (λ (x : ℕ). x * height L + row_of (height L) p) q)
    where
      here : (i : ℕ) → i < height L → p ≡ j * height L + i → P (p * e + k)
      here i li w =
          let a : p * e ≡ j * height L * e + i * e = ap (λ (x : ℕ). x * e) w ∙ add-mul (j * height L) i e in
          let b : j * height L * e + (i * e + k) ≡ p * e + k = omega arith in
          let l : i < m = all i li (omega arith) in
          subst P b (h (i * e + k) (digits_lt l lk))

  -- and no other strip has a byte in the run
  pub strip_apart : (p k : ℕ) → k < e → strip_of (height L) p ≢ j → (p * e + k < j * height L * e) ⊎ (j * height L * e + m * e ≤ p * e + k)
  strip_apart p k lk ne = there (dec_lt p (j * height L)) (dec_lt p (j * height L + m))
    where
      there : Dec (p < j * height L) → Dec (p < j * height L + m) → (p * e + k < j * height L * e) ⊎ (j * height L * e + m * e ≤ p * e + k)
      there (yes l) y = inl (omega (arith, before e p (j * height L) l))
      there (no l) (no g) = inr (omega (arith, run_ends, mul-le-mul past (le_refl e)))
        where
          past : j * height L + m ≤ p
          past = omega arith
      there (no l) (yes g) =
          let i : ℕ = p - j * height L in
          let q : j * height L + i ≡ p = omega arith in
          absurd (ne (ap (strip_of (height L)) (sym q) ∙ place_strip (height L) i j (omega (arith, most))))

  -- what it leaves
  pub filled_strip : (v : ℕ) (s u : List ℕ) → Filled s (j * height L * e) (m * e) (λ k. v) u → FillsStrip L e j v s u
  filled_strip v s u f =
      record {
        size = f.long;
        filled = strip_run (λ (x : ℕ). get_or u x 0 ≡ v) f.inside;
        kept = λ p k lk ne. f.outside (p * e + k) (strip_apart p k lk ne);
      }

-- nothing is left open: every byte of a stripe with a strip filled is determined
pub fill_strip_determined : (L : Layout) (e j v : ℕ) (s t u : List ℕ) → length s ≡ e * places L → FillsStrip L e j v s t → FillsStrip L e j v s u → t ≡ u
fill_strip_determined L e j v s t u size x y =
    sized_same L e t u (x.size ∙ size) (y.size ∙ size) (λ k lk. record { all = λ p lp. go k lk p lp (ℕ_discrete (strip_of (height L) p) j) })
  where
    go : (k : ℕ) → k < e → (p : ℕ) → p < places L → Dec (strip_of (height L) p ≡ j) → at t e k p ≡ at u e k p
    go k lk p lp (yes q) = x.filled p k lp lk q ∙ sym (y.filled p k lp lk q)
    go k lk p lp (no ne) = x.kept p k lk ne ∙ sym (y.kept p k lk ne)
