-- `run` meets its contract: on a good shape the walk leaves nothing, and its steps are a right and complete plan. Assumes nothing.
use Rattle.shape.specs.MapLaws.{maps_walk}
use Rattle.rebuild.specs.SteppingLaws.{walk_shaped}
use Rattle.rebuild.specs.WholePlan.{whole_plan}
use Rattle.rebuild.proofs.mending.run.Goals as goal

pub run_steps-requires-clause-steps : goal.run_steps-requires-clause-steps
run_steps-requires-clause-steps c =
    walk_shaped _ _ _ _ _ (maps_walk c.map_of-map.ensures c.walk.ensures)

pub returns : goal.returns
returns c =
    let map = c.map_of-map.ensures in
    let ran = c.run_steps.ensures in
    record {
      plan = _;
      count = _;
      planned = whole_plan c.args.shape.n c.args.shape.r c.args.shape.s c.args.shape.e c.args.shape.limits c.requires.good _ _ map.diagonals
          map.homes c.args.a c.args.b c.requires.strips.0 c.requires.strips.1 _ _ _ (maps_walk map c.walk.ensures);
      run = ran.run;
      marks = ran.marks;
    }
