-- `run_steps` meets its contract: the steps so far have run, and their lines are marked. Assumes nothing.
use Rattle.std.proofs.Common.{arith, ◌<◌, subst, refl}
use Rattle.walker.specs.Written.{step_of}
use Rattle.rebuild.specs.Stepping.{Shaped}
use Rattle.rebuild.proofs.PlanRunLaws.{no_marks}
use Rattle.rebuild.proofs.RunningLaws.{running_none, running_more}
use Rattle.rebuild.proofs.stepping.run_steps.Goals as goal

pub loop-step-init : goal.loop-step-init
loop-step-init c =
    running_none _ _ _ _ _ refl (no_marks 64)

pub run_step-t-requires-clause-shaped : goal.run_step-t-requires-clause-shaped
run_step-t-requires-clause-shaped c =
    let k = c.loop-step.step-index in
    let early : k < c.args.plan.now.count = omega (arith, c.steps-steps.ensures.count) in
    subst (Shaped c.args.shape.n c.args.shape.r) (step_of c.args.plan.now.steps _ c.args.plan.now.count k c.steps-steps.ensures.steps early)
    (c.requires.steps k early)

pub loop-step-preserved : goal.loop-step-preserved
loop-step-preserved c =
    let k = c.loop-step.step-index in
    let early : k < c.args.plan.now.count = omega (arith, c.steps-steps.ensures.count) in
    running_more _ _ _ _ k _ _ _ c.loop-step.invariant _ (step_of c.args.plan.now.steps _ c.args.plan.now.count k c.steps-steps.ensures.steps early) _
    c.run_step-t.ensures
