-- `gather` meets its contract: block after block and then the tail, each a sum of bytes as they were. Assumes nothing.
use Rattle.std.proofs.Common.{◌≡◌, ◌≤◌, ◌-◌, ◌%◌}
use Rattle.element.specs.Gather.{Gathered}
use Rattle.element.proofs.gather.Given as goal

-- whole blocks are written, and whole ones are left
abbrev pub invariant-loop-k : goal.invariant-loop-k
invariant-loop-k l = (l.k % 128 ≡ 0) × (l.k ≤ l.k-end) × Gathered l.initial.s l.k l.d l.offs l.s

abbrev pub decreases-loop-k : goal.decreases-loop-k
decreases-loop-k l = l.k-end - l.k
