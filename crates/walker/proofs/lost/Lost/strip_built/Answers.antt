-- `strip_built` meets its contract: each of the rows is asked for its flag. Assumes nothing.
use Rattle.std.proofs.Common.{arith}
use Rattle.std.proofs.lemmas.List.{length-take-le}
use Rattle.walker.specs.SearchLaws.{strip_all}
use Rattle.walker.proofs.lost.Lost.strip_built.Goals as goal

pub returns-else-c-self : goal.returns-else-c-self
returns-else-c-self c =
    strip_all (omega arith) (length-take-le _ _ (omega arith)) c.built_in.ensures
