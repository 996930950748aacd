-- `unused_zero` meets its contract: the unused ones of the first t lines sum to zero. Assumes nothing.
use Rattle.code.specs.Shift.{shift}
use Rattle.rebuild.specs.Testing.{Passed}
use Rattle.rebuild.proofs.testing.unused_zero.Given as goal

abbrev pub invariant-loop-t : goal.invariant-loop-t
invariant-loop-t l =
    Passed (shift l.stripe.shape.n l.stripe.shape.r l.stripe.shape.s) l.stripe.shape.e l.used l.stripe.bytes.now l.t
