-- `sweep` meets its contract: the rows and the diagonals passed give nothing, by the laws of `Sweep`. Assumes nothing.
use Rattle.walker.specs.Sweep.{row_passed, diagonal_passed}
use Rattle.walker.proofs.lost.Lost.sweep.Goals as goal

pub loop-i-preserved : goal.loop-i-preserved
loop-i-preserved c =
    row_passed c.loop-i.invariant c.row_step.ensures

pub loop-d-preserved : goal.loop-d-preserved
loop-d-preserved c =
    diagonal_passed c.loop-d.invariant c.diagonal_step.ensures
