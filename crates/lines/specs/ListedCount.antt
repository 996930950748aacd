-- How many elements a listed line has. Assumes nothing.
use Rattle.std.specs.Prelude.{◌≡◌, List, ℕ, ◌+◌, ◌≤◌, ◌<◌, length}
use Rattle.std.proofs.Common.{sym, subst, arith}
use Rattle.code.specs.LayoutLaws.{row_length, diagonal_length, by_lines}
use Rattle.code.specs.Shift.{shift}
use Rattle.shape.specs.Limits.{Limits}
use Rattle.lines.specs.Listed.{Listed}

-- a line within the limits has from 2 to 33 places
pub record Count (m : ℕ) : Type 0 where
  pub low : 2 ≤ m
  pub high : m ≤ 33

pub listed_count : (n r s e t : ℕ) (os : List ℕ) (m : ℕ) → Limits n r s e → t < r + n → Listed (shift n r s) e t os m → Count m
listed_count n r s e t os m l lt p =
    subst Count (sym p.count)
    (by_lines (shift n r s) (λ u ps. Count (length ps)) (λ i li. counted (row_length (shift n r s) i) (omega (arith, l.n_low)) l.n_high)
    (λ d ld. counted (diagonal_length (shift n r s) d) l.r_low l.r_high) t lt)
  where
    counted : {x y : ℕ} → x ≡ y + 1 → 1 ≤ y → y ≤ 32 → Count x
    counted q low high = record { low = omega arith; high = omega arith }
