-- `is_zero` meets its contract: every block passed is zero, the first that is not ends the test, and the tail decides. Assumes nothing.
use Rattle.std.proofs.Common.{◌≡◌, ◌≤◌, ◌-◌, ◌%◌}
use Rattle.element.specs.Gather.{total, Zero}
use Rattle.element.proofs.is_zero.Given as goal

-- whole blocks are passed, and whole ones are left
abbrev pub invariant-loop-k : goal.invariant-loop-k
invariant-loop-k l = (l.k % 128 ≡ 0) × (l.k ≤ l.k-end) × Zero l.k (total l.s l.offs)

abbrev pub decreases-loop-k : goal.decreases-loop-k
decreases-loop-k l = l.k-end - l.k
