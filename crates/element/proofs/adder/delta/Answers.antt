-- `delta` meets its contract: old and new bytes added into a local. Assumes nothing.
use Rattle.std.proofs.Common.{arith, refl}
use Rattle.code.specs.Xor.{◌⊕◌}
use Rattle.element.specs.FilledLaws.{filled_more}
use Rattle.element.proofs.adder.delta.Goals as goal

pub loop-t-preserved : goal.loop-t-preserved
unfolding ◌⊕◌
loop-t-preserved c =
    filled_more _ 0 _ _ _ _ _ (omega arith) (omega arith) refl c.loop-t.invariant
