-- `gather` meets its contract: block after block and then the tail, each a sum of bytes as they were. Assumes nothing.
use Rattle.std.proofs.Common.{arith, sym, subst, length-take-le, ◌-◌, ◌%◌}
use Rattle.element.specs.FilledLaws.{filled_all}
use Rattle.element.specs.Gather.{Gathered}
use Rattle.element.proofs.GatherLaws.{gathered_block, gathered_run, run_part}
use Rattle.element.proofs.gather.Goals.{else-loop-k-test, then-loop-k-test+else-k-end-k-gt128}
use Rattle.element.proofs.gather.Goals as goal

pub loop-k-preserved : goal.loop-k-preserved
loop-k-preserved c = (
  omega arith,
  omega arith,
  gathered_block _ _ c.args.e _ _ _ _ _ _ (omega arith) (omega arith) (omega arith) c.requires.2 c.loop-k.invariant.2
      c.sum-acc.ensures c.put.ensures,
)

pub returns-then-rest : goal.returns-then-rest
returns-then-rest c =
    let m = c.args.e % 128 in
    let whole : Gathered c.args.s.now (c.args.e - m) c.args.d c.args.offs.now c.loop-k-test.s =
    elim c.loop-k-test.branch [
      | else-loop-k-test w ↦
          subst (Gathered c.args.s.now (c.args.e - m) c.args.d c.args.offs.now) (sym w.s-is)
          (filled_all _ _ _ _ _ _ (omega arith) (omega arith) c.loop-k.invariant.2)
      | then-loop-k-test+else-k-end-k-gt128 w ↦
          subst (Gathered c.args.s.now (c.args.e - m) c.args.d c.args.offs.now) (sym w.s-is)
          (gathered_block _ _ c.args.e _ _ _ _ _ _ (omega arith) (omega arith) (omega arith) c.requires.2 c.loop-k.invariant.2
          w.sum-acc.ensures w.put.ensures)
    ] in
    gathered_run _ _ c.args.e _ _ _ _ _ _ (omega (arith, length-take-le m c.sum-last.result (omega arith))) (omega arith) c.requires.2 whole
    (run_part _ _ _ (omega arith) c.sum-last.ensures) c.put-then-rest.ensures

pub returns-else-rest : goal.returns-else-rest
returns-else-rest c =
    elim c.loop-k-test.branch [
      | else-loop-k-test w ↦
          subst (Gathered c.args.s.now c.args.e c.args.d c.args.offs.now) (sym w.s-is)
          (filled_all _ _ _ _ _ _ (omega arith) (omega arith) c.loop-k.invariant.2)
      | then-loop-k-test+else-k-end-k-gt128 w ↦
          subst (Gathered c.args.s.now c.args.e c.args.d c.args.offs.now) (sym w.s-is)
          (gathered_block _ _ c.args.e _ _ _ _ _ _ (omega arith) (omega arith) (omega arith) c.requires.2 c.loop-k.invariant.2
          w.sum-acc.ensures w.put.ensures)
    ]
