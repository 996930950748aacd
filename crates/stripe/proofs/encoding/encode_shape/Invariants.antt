-- `encode_shape` meets its contract: the data is as at entry, and every line passed sums to zero. Assumes nothing.
use Rattle.code.specs.Shift.{shift}
use Rattle.stripe.specs.EncodeLaws.{EncodedTo}
use Rattle.stripe.proofs.encoding.encode_shape.Given as goal

abbrev pub invariant-loop-t : goal.invariant-loop-t
invariant-loop-t l = EncodedTo (shift l.shape.n l.shape.r l.shape.s) l.shape.e l.initial.stripe l.t l.stripe
