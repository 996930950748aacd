-- `Listing::row` meets its contract: the row's elements of the strips passed are listed, and o is where the next one starts. Assumes nothing.
use Rattle.std.proofs.Common.{ℕ, ◌*◌, ◌<◌, ◌≡◌, length, get_or}
use Rattle.code.specs.Place.{place}
use Rattle.lines.proofs.listing.Listing.row.Given as goal

abbrev pub invariant-loop-v : goal.invariant-loop-v
invariant-loop-v l = record {
  room : length l.self.starts ≡ 33;
  next : l.o ≡ place l.h l.i l.v * l.e;
  listed : (j : ℕ) → j < l.v → get_or l.self.starts j 0 ≡ place l.h l.i j * l.e;
}
