-- `scrub_shape` meets its contract: the first r lines are the rows, the n after them the diagonals. Assumes nothing.
use Rattle.std.proofs.Common.{arith}
use Rattle.code.specs.Shift.{shift}
use Rattle.code.proofs.ShiftLaws.{shift_fair}
use Rattle.finding.proofs.TallyLaws.{tallied_below}
use Rattle.finding.proofs.WrongLaws.{tallied_rows, tallied_diagonals}
use Rattle.finding.proofs.FoundLaws.{finds_tallied}
use Rattle.finding.proofs.scrub_shape.Goals as goal

pub found-finding-requires : goal.found-finding-requires
found-finding-requires c =
    record {
      row = λ h. omega (arith, tallied_below _ _ _ _ c.wrong_lines-rows.ensures h);
      diagonal = λ h. omega (arith, tallied_below _ _ _ _ c.wrong_lines-diagonals.ensures h);
    }

pub returns : goal.returns
returns c =
    let L = shift c.args.stripe.shape.n c.args.stripe.shape.r c.args.stripe.shape.s in
    let p = tallied_rows L c.args.stripe.shape.e c.args.stripe.bytes.now _ _ c.wrong_lines-rows.ensures in
    let fair = shift_fair c.args.stripe.shape.n c.args.stripe.shape.r c.args.stripe.shape.s (omega arith) in
    let q = tallied_diagonals L c.args.stripe.shape.e c.args.stripe.bytes.now fair _ _ c.wrong_lines-diagonals.ensures in
    finds_tallied L c.args.stripe.shape.e c.args.stripe.bytes.now _ _ _ _ p q _ c.found-finding.ensures
