-- `add` meets its contract: N sources are added to the first m bytes of the accumulator. Assumes nothing.
use Rattle.std.proofs.Common.{arith, ℕ, ap, ◌∙◌, ◌+◌, get_or}
use Rattle.code.specs.Xor.{◌⊕◌}
use Rattle.element.specs.Gather.{total}
use Rattle.element.specs.FilledLaws.{filled_more, filled_next}
use Rattle.element.proofs.SofarLaws.{partial_none, partial_more, partial_all}
use Rattle.element.proofs.kernel.add.Goals as goal

pub loop-o-init : goal.loop-o-init
loop-o-init g c =
    partial_none c.args.s.now c.args.offs.now (c.args.k + c.loop-t.t) _

pub loop-o-preserved : goal.loop-o-preserved
unfolding ◌⊕◌
loop-o-preserved g c =
    partial_more c.args.s.now c.args.offs.now c.args.k c.loop-t.t c.loop-o.o-index (get_or c.loop-t.acc c.loop-t.t 0) c.loop-o.x c.loop-o.invariant

pub loop-t-preserved : goal.loop-t-preserved
loop-t-preserved g c =
    let t = c.loop-t.t in
    let before = filled_next _ t _ c.loop-t.acc c.loop-t.invariant in
    let all = partial_all c.args.s.now c.args.offs.now c.loop-o.o-index (c.args.k + t) (omega arith) in
    filled_more _ 0 t _ c.loop-t.acc t _ (omega arith) (omega arith)
    (c.loop-o.invariant ∙ ap (λ (x : ℕ). get_or c.loop-t.acc t 0 ⊕ x) all
    ∙ ap (λ (x : ℕ). x ⊕ total c.args.s.now c.args.offs.now (c.args.k + t)) before) c.loop-t.invariant
