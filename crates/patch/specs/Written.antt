-- WRITTEN: a run of bytes put into one data element, and old ⊕ new added to H of its row and to U of its diagonal at the same bytes. Assumes nothing.
-- row i, strip j, offset o and the bytes of run say what is written    s == the buffer before
use Rattle.std.specs.Prelude.{Bool, false, List, ℕ, ◌+◌, ◌-◌, ◌/◌, ◌%◌, eqb, ltb, length, get_or}
use Rattle.code.specs.Xor.{◌⊕◌}
use Rattle.code.specs.Sum.{table, pick}
use Rattle.code.specs.Place.{at}
use Rattle.code.specs.Layout.{Layout, X, H, U}

module _ (L : Layout) (e i j o : ℕ) (run s : List ℕ) where
  -- byte k of the element lies in the run
  abbrev pub in_run : ℕ → Bool
  in_run k = pick (ltb k o) false (ltb k (o + length run))

  -- byte k of place p after the write: new in the data element, old ⊕ new added in its two parities
  unfoldable pub written_at : ℕ → ℕ → ℕ
  written_at k p =
      pick (in_run k)
      (pick (eqb p (X L i j)) (get_or run (k - o) 0)
      (pick (eqb p (H L i)) (at s e k p ⊕ (at s e k (X L i j) ⊕ get_or run (k - o) 0))
      (pick (eqb p (U L (L.diagonal i j))) (at s e k p ⊕ (at s e k (X L i j) ⊕ get_or run (k - o) 0))
      (at s e k p))))
      (at s e k p)

  -- the whole buffer after the write
  unfoldable pub written_over : List ℕ
  written_over = table (length s) (λ x. written_at (x % e) (x / e))
