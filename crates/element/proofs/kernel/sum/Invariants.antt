-- `sum` meets its contract: the first m bytes of the sum, up to three sources one by one and then four a turn. Assumes nothing.
use Rattle.std.proofs.Common.{◌+◌, ◌*◌, ◌%◌, length}
use Rattle.element.specs.Sofar.{Sofar}
use Rattle.element.proofs.kernel.sum.Given as goal

abbrev pub invariant-loop-four : goal.invariant-loop-four
invariant-loop-four l = Sofar l.s l.offs l.k l.m (length l.offs % 4 + 4 * l.four-index) l.acc

abbrev pub invariant-loop-one : goal.invariant-loop-one
invariant-loop-one l = Sofar l.s l.offs l.k l.m l.one-index l.acc
