-- `walker::plan::Plan::push` meets its contract. Assumes nothing.
use Rattle.std.proofs.Common.{arith}
use Rattle.walker.specs.Written.{recorded}
use Rattle.walker.proofs.plan.Plan.push.Goals as goal

pub returns : goal.returns
returns c =
    recorded _ _ _ (omega arith)
