-- `run_steps` meets its contract: the steps so far have run, and their lines are marked. Assumes nothing.
use Rattle.code.specs.Shift.{shift}
use Rattle.walker.specs.Written.{written}
use Rattle.rebuild.specs.Running.{Running}
use Rattle.rebuild.proofs.stepping.run_steps.Given as goal

abbrev pub invariant-loop-step : goal.invariant-loop-step
invariant-loop-step l =
    Running (shift l.shape.n l.shape.r l.shape.s) l.shape.e (written l.plan.steps) l.step-index l.initial.stripe l.stripe l.used
