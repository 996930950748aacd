-- `judge` meets its contract: a good shape that fits is set with a stripe of zeros, and another changes nothing. Assumes nothing.
use Rattle.std.proofs.Common.{arith}
use Rattle.shape.proofs.Exit.{exit_is}
use Rattle.stripebench.specs.SetLaws.{set_refused, set_large, set_good, holds_good}
use Rattle.stripebench.proofs.NumbersLaws.{two_bytes}
use Rattle.stripebench.proofs.acting.Room.judge.Goals as goal

pub returns-then-room-size : goal.returns-then-room-size
returns-then-room-size c =
    let b = c.args.body.now in
    let room = c.args.self.now in
    set_large b _ room.bytes _ _ _ _
    (c.from.ensures, c.from-2.ensures, c.from-3.ensures, two_bytes b 3 _ _ (omega arith) c.from_le_bytes-e.ensures c.from-4.ensures)
    _ c.judge.ensures room.holds _ _ c.in_ok-shape.was (omega (arith, room.holds.long, c.if-room-size.true))

pub invariant_of-self : goal.invariant_of-self
invariant_of-self c =
    let b = c.args.body.now in
    let room = c.args.self.now in
    record {
      holds = holds_good b _ room.bytes _ _ _ _
          (c.from.ensures, c.from-2.ensures, c.from-3.ensures, two_bytes b 3 _ _ (omega arith) c.from_le_bytes-e.ensures c.from-4.ensures)
          _ c.judge.ensures room.holds _ _ c.in_ok-shape.was (omega (arith, room.holds.long, c.if-room-size.false)) _ c.fill.ensures;
    }

pub returns : goal.returns
returns c =
    let b = c.args.body.now in
    let room = c.args.self.now in
    set_good b _ room.bytes _ _ _ _
    (c.from.ensures, c.from-2.ensures, c.from-3.ensures, two_bytes b 3 _ _ (omega arith) c.from_le_bytes-e.ensures c.from-4.ensures)
    _ c.judge.ensures room.holds _ _ c.in_ok-shape.was (omega (arith, room.holds.long, c.if-room-size.false)) _ c.fill.ensures

pub returns-in_err-shape : goal.returns-in_err-shape
returns-in_err-shape c =
    let b = c.args.body.now in
    rw (exit_is _ c.from_residual.ensures.1)
    (set_refused b _ c.args.self.now.bytes _ _ _ _
    (c.from.ensures, c.from-2.ensures, c.from-3.ensures, two_bytes b 3 _ _ (omega arith) c.from_le_bytes-e.ensures c.from-4.ensures)
    _ c.judge.ensures _ c.in_err-shape.was)
