-- `Listing::line` meets its contract: a row, or a diagonal. Assumes nothing.
use Rattle.std.proofs.Common.{arith}
use Rattle.lines.specs.ListedLaws.{listed_at}
use Rattle.lines.proofs.listing.Listing.line.Goals as goal

pub returns-else-t-r : goal.returns-else-t-r
returns-else-t-r c =
    listed_at _ _ _ _ _ _ (omega arith) c.diagonal.ensures
