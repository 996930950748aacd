-- Places: row i of strip j stands at place j h + i, where a data strip has h rows, r of data and v of v-parity (h = r + v; v = 1 here), and
-- strip n, the h-parity strip, has r. Byte k of place p of a stripe of e-byte elements is byte p e + k. Assumes nothing.
use Rattle.std.specs.Prelude.{◌≡◌, ◌≢◌, ◌⊎◌, List, ℕ, ◌+◌, ◌*◌, ◌%◌, ◌/◌, ◌≤◌, ◌<◌, get_or}
use Rattle.std.proofs.Common.{sym, ap, ◌∙◌, subst, inl, inr, mul-le-mul, suc-mul, mul_comm, le_refl, arith}
use Rattle.std.proofs.Math.Decide.{dec_lt}
use Rattle.std.proofs.Math.Arith.{digits_div, digits_mod, digits_lt}

-- the place of row i of strip j
abbrev pub place : ℕ → ℕ → ℕ → ℕ
place h i j = j * h + i

-- the strip and the row of place p
abbrev pub strip_of : ℕ → ℕ → ℕ
strip_of h p = p / h

abbrev pub row_of : ℕ → ℕ → ℕ
row_of h p = p % h

-- byte k of the element at place p
abbrev pub at : List ℕ → ℕ → ℕ → ℕ → ℕ
at s e k p = get_or s (p * e + k) 0

-- ---- laws

pub place_strip : (h i j : ℕ) → i < h → strip_of h (place h i j) ≡ j
place_strip h i j l = digits_div j l

pub place_row : (h i j : ℕ) → i < h → row_of h (place h i j) ≡ i
place_row h i j l = digits_mod j l

-- a place has one strip and one row
pub same_strip : (h i j i' j' : ℕ) → i < h → i' < h → place h i j ≡ place h i' j' → j ≡ j'
same_strip h i j i' j' l l' e = sym (place_strip h i j l) ∙ ap (λ (p : ℕ). strip_of h p) e ∙ place_strip h i' j' l'

pub same_row : (h i j i' j' : ℕ) → i < h → i' < h → place h i j ≡ place h i' j' → i ≡ i'
same_row h i j i' j' l l' e = sym (place_row h i j l) ∙ ap (λ (p : ℕ). row_of h p) e ∙ place_row h i' j' l'

-- a place of the first n strips stands before those of strip n
pub place_below : (h n i j : ℕ) → i < h → j < n → place h i j < n * h
place_below h n i j li lj = digits_lt lj li

-- what starts at place p ends where place q begins, or sooner
pub before : (e p q : ℕ) → p < q → p * e + e ≤ q * e
before e p q l = subst (λ (x : ℕ). x ≤ q * e) (suc-mul p e) (mul-le-mul l (le_refl e))

pub inside : (e p m : ℕ) → p < m → p * e + e ≤ e * m
inside e p m l = let x = before e p m l in let y = mul_comm e m in omega arith

-- where places differ their bytes lie apart
pub apart : (e p q : ℕ) → p ≢ q → (p * e + e ≤ q * e) ⊎ (q * e + e ≤ p * e)
apart e p q ne = go (dec_lt p q)
  where
    go : Dec (p < q) → (p * e + e ≤ q * e) ⊎ (q * e + e ≤ p * e)
    go (yes l) = inl (before e p q l)
    go (no l) = inr (before e q p (omega arith))
