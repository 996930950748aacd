-- `write` meets its contract: it replies what the library's write answers, and leaves what that leaves. Assumes nothing.
use Rattle.std.proofs.Common.{arith}
use Rattle.shape.proofs.Exit.{exit_is}
use Rattle.stripebench.specs.CallLaws.{write_done, write_refused, write_leaves}
use Rattle.stripebench.proofs.NumbersLaws.{two_bytes}
use Rattle.stripebench.proofs.calling.write.Goals as goal

pub returns-clause-reply : goal.returns-clause-reply
returns-clause-reply c =
    let b = c.args.body.now in
    write_done c.args.shape b c.args.stripe.now _ _ _
    (c.from.ensures, c.from-2.ensures, two_bytes b 2 _ _ (omega arith) c.from_le_bytes-offset.ensures c.from-3.ensures)
    _ _ c.write.ensures c.in_ok-write.was

pub returns-clause-stripe : goal.returns-clause-stripe
returns-clause-stripe c =
    let b = c.args.body.now in
    write_leaves c.args.shape b c.args.stripe.now _ _ _
    (c.from.ensures, c.from-2.ensures, two_bytes b 2 _ _ (omega arith) c.from_le_bytes-offset.ensures c.from-3.ensures)
    _ _ c.write.ensures

pub returns-in_err-write-clause-reply : goal.returns-in_err-write-clause-reply
returns-in_err-write-clause-reply c =
    let b = c.args.body.now in
    rw (exit_is _ c.from_residual.ensures.1)
    (write_refused c.args.shape b c.args.stripe.now _ _ _
    (c.from.ensures, c.from-2.ensures, two_bytes b 2 _ _ (omega arith) c.from_le_bytes-offset.ensures c.from-3.ensures)
    _ _ c.write.ensures _ c.in_err-write.was)

pub returns-in_err-write-clause-stripe : goal.returns-in_err-write-clause-stripe
returns-in_err-write-clause-stripe c =
    let b = c.args.body.now in
    write_leaves c.args.shape b c.args.stripe.now _ _ _
    (c.from.ensures, c.from-2.ensures, two_bytes b 2 _ _ (omega arith) c.from_le_bytes-offset.ensures c.from-3.ensures)
    _ _ c.write.ensures
