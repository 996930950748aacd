-- `add_at` meets its contract: a part that is lent and comes back stands in its place. Assumes nothing.
use Rattle.std.proofs.Common.{arith, ◌+◌, ◌-◌, length}
use Rattle.element.specs.AddedLaws.{added_part}
use Rattle.element.proofs.adder.add_at.Goals as goal

pub returns : goal.returns
returns c =
    let m = length c.args.run.now in
    added_part c.args.s.now c.args.run.now _ c.args.d m ((c.args.d + m) - c.args.d) (omega arith) c.requires c.add.ensures
