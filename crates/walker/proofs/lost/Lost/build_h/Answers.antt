-- `build_h` meets its contract: the H of the rows passed were written down. Assumes nothing.
use Rattle.std.proofs.Common.{arith}
use Rattle.walker.specs.ClosingLaws.{h_more}
use Rattle.walker.proofs.lost.Lost.build_h.Goals as goal

pub loop-h-preserved : goal.loop-h-preserved
loop-h-preserved c =
    h_more c.loop-h.invariant (omega (arith, c.args.self.now.within)) c.loop-h-test.true c.push.ensures
