-- `Listing::diagonal` meets its contract: the diagonal's elements of the rows passed are listed, and o is where that of the next row starts.
-- Assumes nothing.
use Rattle.std.proofs.Common.{ℕ, ◌+◌, ◌*◌, ◌<◌, ◌≡◌, get_or}
use Rattle.code.specs.Place.{place}
use Rattle.code.specs.Shift.{meets}
use Rattle.lines.proofs.listing.Listing.diagonal.Given as goal

abbrev pub invariant-loop-i : goal.invariant-loop-i
invariant-loop-i l = record {
  next : l.i < l.r → l.o ≡ place (l.r + 1) l.i (meets l.shape.n l.r l.shape.s l.i l.d) * l.e;
  listed : (v : ℕ) → v < l.i → get_or l.self.starts v 0 ≡ place (l.r + 1) v (meets l.shape.n l.r l.shape.s v l.d) * l.e;
}
