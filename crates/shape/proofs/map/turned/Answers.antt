-- `turned` meets its contract: the entries passed are set, and x is the next. Assumes nothing.
use Rattle.std.proofs.Common.{arith, ◌+◌, ◌%◌}
use Rattle.std.proofs.lemmas.List.Edits.{fill_by_more}
use Rattle.shape.specs.MapLaws.{after, turned_whole}
use Rattle.shape.proofs.map.turned.Goals as goal

pub loop-entry-preserved : goal.loop-entry-preserved
loop-entry-preserved c =
    let inv = c.loop-entry.invariant in record {
      next = after _ _ _ _ _ inv.next.is c.next-x.ensures;
      set = rw inv.next.is (fill_by_more (λ k. (c.args.d + k) % c.args.n) _ _ 0 (omega arith) inv.set);
    }

pub returns : goal.returns
returns c = turned_whole _ _ _ (omega arith) c.loop-entry.auto.entry-items (λ j l. c.loop-entry.invariant.set j (omega arith))
