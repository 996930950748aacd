-- The measure of `row_step` and `diagonal_step`, which call each other: the number of unknown elements.
use Rattle.walker.specs.Flags.{unknowns}
use Rattle.walker.specs.Lines.{layout, lost}
use Rattle.walker.proofs.lost.Lost.+chain.Given as goal

abbrev pub decreases-row_step : goal.decreases-row_step
decreases-row_step l = unknowns (layout l.self.now) (lost l.self.now) l.so_far.now.built

abbrev pub decreases-diagonal_step : goal.decreases-diagonal_step
decreases-diagonal_step l = unknowns (layout l.self.now) (lost l.self.now) l.so_far.now.built
