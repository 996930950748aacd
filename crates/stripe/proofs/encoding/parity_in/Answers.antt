-- `parity_in` meets its contract: a row has n places before its parity, a diagonal r. Assumes nothing.
use Rattle.std.proofs.Common.{arith}
use Rattle.code.specs.Shift.{shift}
use Rattle.stripe.specs.ParityLaws.{row_last, diagonal_last}
use Rattle.stripe.proofs.encoding.parity_in.Goals as goal

pub returns-then-t-r : goal.returns-then-t-r
returns-then-t-r c =
    row_last (shift c.args.shape.n c.args.shape.r c.args.shape.s) c.args.t (omega arith)

pub returns-else-t-r : goal.returns-else-t-r
returns-else-t-r c =
    diagonal_last (shift c.args.shape.n c.args.shape.r c.args.shape.s) c.args.t (omega arith)
