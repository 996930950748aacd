-- `worked::unused::mark` ends, and writes inside the marks. Assumes nothing.
use Rattle.std.proofs.Common.{arith, ◌<◌, subst}
use Rattle.walker.specs.Written.{step_of}
use Rattle.rebuild.specs.Stepping.{Shaped}
use Rattle.worked.proofs.unused.mark.Goals as goal

pub line_of-requires : goal.line_of-requires
line_of-requires c =
    let k = c.loop-step.step-index in
    let early : k < c.args.plan.now.count = omega (arith, c.steps-step-items.ensures.count) in
    record {
      shaped = subst (Shaped c.args.shape.n c.args.shape.r)
          (step_of c.args.plan.now.steps _ c.args.plan.now.count k c.steps-step-items.ensures.steps early) (c.requires.steps k early);
    }
