-- `is_zero` meets its contract: every block passed is zero, the first that is not ends the test, and the tail decides. Assumes nothing.
use Rattle.std.proofs.Common.{arith, length-take-le, ◌-◌, ◌%◌}
use Rattle.element.specs.Gather.{total, Zero}
use Rattle.element.proofs.GatherLaws.{zero_block, zero_part, run_part, tells_yes, tells_last}
use Rattle.element.proofs.is_zero.Goals.{else-loop-k-test, then-loop-k-test+else-not-all_zero+else-k-end-k-gt128}
use Rattle.element.proofs.is_zero.Goals as goal

pub loop-k-preserved : goal.loop-k-preserved
loop-k-preserved c = (
  omega arith,
  omega arith,
  zero_block _ _ _ _ (omega arith) (omega arith) c.loop-k.invariant.2 c.sum-acc.ensures
      (c.all_zero.ensures.yes c.if-not-all_zero.false),
)

pub returns-then-m-eq0 : goal.returns-then-m-eq0
returns-then-m-eq0 c =
    elim c.loop-k-test.branch [
      | else-loop-k-test w ↦ tells_yes _ _ _ _ (omega arith) c.loop-k.invariant.2
      | then-loop-k-test+else-not-all_zero+else-k-end-k-gt128 w ↦ tells_yes _ _ _ c.args.e (omega arith)
          (zero_block _ _ _ _ (omega arith) (omega arith) c.loop-k.invariant.2 w.sum-acc.ensures (w.all_zero.ensures.yes w.if-not-all_zero.false))
    ]

pub returns : goal.returns
returns c =
    let m = c.args.e % 128 in
    let whole : Zero (c.args.e - m) (total c.args.s.now c.args.offs.now) =
    elim c.loop-k-test.branch [
      | else-loop-k-test w ↦ zero_part _ _ _ (omega arith) c.loop-k.invariant.2
      | then-loop-k-test+else-not-all_zero+else-k-end-k-gt128 w ↦
          zero_block _ _ _ _ (omega arith) (omega arith) c.loop-k.invariant.2 w.sum-acc.ensures (w.all_zero.ensures.yes w.if-not-all_zero.false)
    ] in
    tells_last _ _ _ (c.args.e - m) _ _ _ (omega (arith, length-take-le m c.sum-last.result (omega arith))) whole
    (run_part _ _ _ (omega arith) c.sum-last.ensures) c.all_zero-2.ensures
