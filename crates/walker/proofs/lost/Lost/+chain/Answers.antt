-- `row_step` and `diagonal_step`, which call each other, meet their contracts: each exit is a law of `Chain`. Assumes nothing.
use Rattle.std.proofs.Common.{arith}
use Rattle.walker.specs.Written.{row_right, diagonal_right}
use Rattle.walker.specs.Lines.{layout}
use Rattle.walker.specs.Chain.{row_first, diagonal_first, fall, taken, stepped_on}
use Rattle.walker.proofs.lost.Lost.+chain.Goals as goal

pub row_step-diagonal_step-requires : goal.row_step-diagonal_step-requires
row_step-diagonal_step-requires t c =
    let S = c.requires.state in
    let x = c.in-Some.ensures in (
      omega (arith, fall S x, c.decreases),
      (
        omega (arith, c.from.ensures, c.args.self.now.map.now.fair.diagonal_lt _ _ x.row_below x.strip_below),
        taken S x c.push.ensures (row_right x),
      ),
    )

pub row_step-returns : goal.row_step-returns
row_step-returns t c =
    let x = c.in-Some.ensures in
    stepped_on c.requires.state x (row_first (layout c.args.self.now) _ _ _ _ x.on c.from.ensures) c.diagonal_step.ensures

pub diagonal_step-row_step-requires : goal.diagonal_step-row_step-requires
diagonal_step-row_step-requires t c =
    let S = c.requires.state in
    let x = c.in-Some.ensures in
    (omega (arith, fall S x, c.decreases), (x.row_below, taken S x c.push.ensures (diagonal_right x)))

pub diagonal_step-returns : goal.diagonal_step-returns
diagonal_step-returns t c =
    let x = c.in-Some.ensures in
    stepped_on c.requires.state x (diagonal_first (layout c.args.self.now) _ _ _ x.on) c.row_step.ensures
