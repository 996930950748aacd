-- `delta` meets its contract: old and new bytes added into a local. Assumes nothing.
use Rattle.std.proofs.Common.{◌+◌, get_or}
use Rattle.std.specs.Prelude.{replicate}
use Rattle.code.specs.Xor.{◌⊕◌}
use Rattle.element.specs.Filled.{Filled}
use Rattle.element.proofs.adder.delta.Given as goal

abbrev pub invariant-loop-t : goal.invariant-loop-t
invariant-loop-t l = Filled (replicate 128 0) 0 l.t (λ k. get_or l.s (l.d + k) 0 ⊕ get_or l.v (l.c + k) 0) l.a
