-- `diagonals_of` meets its contract: the rows passed are filled, and d starts the next. Assumes nothing.
use Rattle.std.proofs.Common.{arith, ◌<◌, ◌≢◌, length, below_more, get_or-set_other, get_or-set_same}
use Rattle.shape.specs.MapLaws.{after, turned_from, rows_whole}
use Rattle.shape.proofs.map.diagonals_of.Goals as goal

pub loop-row-preserved : goal.loop-row-preserved
loop-row-preserved c =
    let inv = c.loop-row.invariant in record {
      next = after _ _ _ _ _ inv.next.is c.next-d.ensures;
      rows = below_more _ _
          (λ i l. let ne : i ≢ c.loop-row.row-index = omega arith in rw get_or-set_other (inv.rows i l))
          (let l : c.loop-row.row-index < length c.loop-row.row-items = omega arith in
          rw get_or-set_same (turned_from _ _ _ _ _ inv.next.is c.turned.ensures));
    }

pub returns : goal.returns
returns c =
    rows_whole _ _ _ _ _ _ c.args.shape.limits c.diagonal-d.ensures.is c.loop-row.auto.row-items (λ i l. c.loop-row.invariant.rows i (omega arith))
