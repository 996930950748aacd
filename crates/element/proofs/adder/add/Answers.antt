-- `add` meets its contract: the bytes of the run are added to the part. Assumes nothing.
use Rattle.std.proofs.Common.{arith, ℕ, ap, get_or}
use Rattle.code.specs.Xor.{◌⊕◌}
use Rattle.element.specs.FilledLaws.{filled_more, filled_next, filled_all}
use Rattle.element.specs.AddedLaws.{added_filled}
use Rattle.element.proofs.adder.add.Goals as goal

pub loop-t-preserved : goal.loop-t-preserved
unfolding ◌⊕◌
loop-t-preserved c =
    let t = c.loop-t.t in
    filled_more _ 0 t _ c.loop-t.part t _ (omega arith) (omega arith)
    (ap (λ (x : ℕ). x ⊕ get_or c.args.run.now t 0) (filled_next _ t _ c.loop-t.part c.loop-t.invariant)) c.loop-t.invariant

pub returns : goal.returns
returns c =
    added_filled _ _ _ (filled_all _ _ _ _ _ _ (omega arith) (omega arith) c.loop-t.invariant)
