-- `read` meets its contract: it replies what the library's check answers, with the first byte of what its read hands back. Assumes nothing.
use Rattle.shape.proofs.Exit.{exit_is}
use Rattle.stripebench.specs.CallLaws.{read_some, read_done, read_refused}
use Rattle.stripebench.proofs.calling.read.Goals as goal

pub bounds-element-0 : goal.bounds-element-0
bounds-element-0 c =
    read_some c.args.shape c.args.body.now c.args.stripe.now _ _ (c.from-row.ensures, c.from-strip.ensures) _ c.read_check.ensures
    c.in_ok-read_check.was _ c.read-element.ensures

pub returns : goal.returns
returns c =
    read_done c.args.shape c.args.body.now c.args.stripe.now _ _ (c.from-row.ensures, c.from-strip.ensures) _ c.read_check.ensures
    c.in_ok-read_check.was _ c.read-element.ensures _ c.from.ensures

pub returns-in_err-read_check : goal.returns-in_err-read_check
returns-in_err-read_check c =
    rw (exit_is _ c.from_residual.ensures.1)
    (read_refused c.args.shape c.args.body.now c.args.stripe.now _ _ (c.from-row.ensures, c.from-strip.ensures) _ c.read_check.ensures
    _ c.in_err-read_check.was)
