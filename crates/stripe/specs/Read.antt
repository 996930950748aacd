-- READ hands back the element as a part of the stripe, and an empty part when refused; its reason comes from a check with the same order.
-- Assumes nothing.
use Rattle.std.specs.Prelude.{List, [], ℕ, ◌*◌, eqb, length, take, drop}
use Rattle.code.specs.Sum.{pick}
use Rattle.code.specs.Layout.{X}
use Rattle.code.specs.Shift.{shift}
use Rattle.stripe.specs.Write.{write_number}

-- 0 to 6, then 9 for row and strip: a write of nothing at offset 0
abbrev pub read_number : ℕ → ℕ → ℕ → ℕ → ℕ → ℕ → ℕ → ℕ
read_number n r s e size i j = write_number n r s e size i j 0 0

-- the e bytes of the element of row i in strip j; none where read is refused
unfoldable pub read_part : ℕ → ℕ → ℕ → ℕ → ℕ → ℕ → List ℕ → List ℕ
read_part n r s e i j b = pick (eqb (read_number n r s e (length b) i j) 0) (take e (drop (X (shift n r s) i j * e) b)) []
