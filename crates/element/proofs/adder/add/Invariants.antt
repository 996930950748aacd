-- `add` meets its contract: the bytes of the run are added to the part. Assumes nothing.
use Rattle.std.proofs.Common.{get_or}
use Rattle.code.specs.Xor.{◌⊕◌}
use Rattle.element.specs.Filled.{Filled}
use Rattle.element.proofs.adder.add.Given as goal

abbrev pub invariant-loop-t : goal.invariant-loop-t
invariant-loop-t l = Filled l.initial.part 0 l.t (λ k. get_or l.initial.part k 0 ⊕ get_or l.run k 0) l.part
