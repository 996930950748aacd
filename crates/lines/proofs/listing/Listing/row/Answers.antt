-- `Listing::row` meets its contract: the row's elements of the strips passed are listed, and o is where the next one starts. Assumes nothing.
use Rattle.std.proofs.Common.{arith}
use Rattle.lines.specs.ListedLaws.{row_listed}
use Rattle.lines.proofs.listing.Listing.row.Goals as goal

pub returns : goal.returns
returns c =
    row_listed _ _ _ _ c.requires.row c.loop-v.invariant.room (λ v l. c.loop-v.invariant.listed v (omega arith))
