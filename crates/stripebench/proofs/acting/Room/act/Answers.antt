-- `act` meets its contract: a call on the stripe leaves the room with a sound one. Assumes nothing.
use Rattle.std.proofs.Common.{rules, ◌≡◌, Some}
use Rattle.stripebench.specs.ActLaws.{holds_set}
use Rattle.stripebench.proofs.acting.Room.act.Goals as goal

pub invariant_of-self : goal.invariant_of-self
invariant_of-self c =
    let room = c.args.self.now in
    let set : room.shape ≡ Some c.in_ok-shape-in-Stripe.shape = search rules in
    let call = c.at_start.ensures in
    record { holds = holds_set _ _ _ room.shape room.bytes set room.holds _ _ call.len call.calls }
