-- PATCH: a block of a write. Some bytes of one element replaced, and old ⊕ new added to the same bytes of two more. Assumes nothing.
-- x, h, u == the places of the data element, of its H and of its U    o == the first byte of the block, m == how many
use Rattle.std.specs.Prelude.{◌≡◌, ◌≢◌, ◌⊎◌, List, ℕ, ◌+◌, ◌*◌, ◌≤◌, ◌<◌, length}
use Rattle.code.specs.Xor.{◌⊕◌}
use Rattle.code.specs.Place.{at}
use Rattle.code.specs.Layout.{Layout, X, H, U}
use Rattle.code.specs.Change.{Changed}
use Rattle.patch.specs.declared.Touched.{Touched}

-- t has the places that a write at row i of strip j touches
pub record Touches (L : Layout) (i j : ℕ) (t : Touched) : Type 0 where
  pub x_is : t.x ≡ X L i j
  pub h_is : t.h ≡ H L i
  pub u_is : t.u ≡ U L (L.diagonal i j)

-- three places of s, no two the same
pub record Spots (s : List ℕ) (e x h u : ℕ) : Type 0 where
  pub x_fits : x * e + e ≤ length s
  pub h_fits : h * e + e ≤ length s
  pub u_fits : u * e + e ≤ length s
  pub x_h : x ≢ h
  pub x_u : x ≢ u
  pub h_u : h ≢ u

-- t is s with byte k of the element at x replaced by w k, and its old byte ⊕ w k added to byte k of those at h and u, for k from o up to o + m
pub record Patched (e x h u o m : ℕ) (w : ℕ → ℕ) (s t : List ℕ) : Type 0 where
  pub long : length t ≡ length s
  pub inside : (k : ℕ) → o ≤ k → k < o + m → Changed x h u (at s e k x ⊕ w k) (at s e k) (at t e k)
  pub outside : (p k : ℕ) → k < e → (k < o) ⊎ (o + m ≤ k) → at t e k p ≡ at s e k p
