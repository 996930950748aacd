-- `add` meets its contract: N sources are added to the first m bytes of the accumulator. Assumes nothing.
use Rattle.std.proofs.Common.{◌≡◌, ◌+◌, get_or}
use Rattle.code.specs.Xor.{◌⊕◌}
use Rattle.element.specs.Filled.{Filled}
use Rattle.element.specs.Gather.{total}
use Rattle.element.specs.Sofar.{partial}
use Rattle.element.proofs.kernel.add.Given as goal

-- byte t has the first sources added
abbrev pub invariant-loop-o : goal.invariant-loop-o
invariant-loop-o g l = l.x ≡ get_or l.acc l.t 0 ⊕ partial l.s l.offs l.o-index (l.k + l.t)

abbrev pub invariant-loop-t : goal.invariant-loop-t
invariant-loop-t g l = Filled l.initial.acc 0 l.t (λ t. get_or l.initial.acc t 0 ⊕ total l.s l.offs (l.k + t)) l.acc
