-- `run_step` meets its contract: the place of the line that its step builds is built. Assumes nothing.
use Rattle.shape.specs.LimitsLaws.{limits_fair}
use Rattle.rebuild.specs.SteppingLaws.{builds_stepped}
use Rattle.rebuild.proofs.stepping.run_step.Goals as goal

pub returns : goal.returns
returns c =
    builds_stepped _ (limits_fair _ _ _ _ c.args.shape.limits) _ _ _ _ c.where_built-t.ensures _ _ c.build.ensures
