-- `build_v` meets its contract: each return is a law of `ClosingLaws`. Assumes nothing.
use Rattle.std.proofs.Common.{inl, inr, arith}
use Rattle.walker.specs.ClosingLaws.{built_v_one, built_v_two}
use Rattle.walker.proofs.lost.Lost.build_v.Goals as goal
use Rattle.walker.proofs.lost.Lost.build_v.Goals.{then-self-2-via-then-self-2, then-self-2-via-else-self-2+then-self-3}

pub returns-then-self-2 : goal.returns-then-self-2
returns-then-self-2 c =
    let lost = c.args.self.now in
    built_v_one lost.ordered lost.within (omega arith) c.push.ensures (elim c.then-self-2.branch [
      | then-self-2-via-then-self-2 w ↦ inr (omega (arith, w.if-self-2.true))
      | then-self-2-via-else-self-2+then-self-3 w ↦ inl (omega (arith, w.if-self-3.true))
    ])

pub returns : goal.returns
returns c =
    let lost = c.args.self.now in
    built_v_two lost.ordered lost.within (omega arith) c.push.ensures (omega (arith, lost.ordered)) (omega (arith, lost.within)) c.push-2.ensures
