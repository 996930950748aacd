-- `turned` meets its contract: the entries passed are set, and x is the next. Assumes nothing.
use Rattle.std.proofs.Common.{ℕ, ◌+◌, ◌%◌, ◌<◌, ◌≡◌, get_or}
use Rattle.shape.specs.Answers.{Among}
use Rattle.shape.proofs.map.turned.Given as goal

abbrev pub invariant-loop-entry : goal.invariant-loop-entry
invariant-loop-entry l = record {
  next : Among l.n ((l.d + l.entry-index) % l.n) l.x;
  set : (k : ℕ) → k < l.entry-index → get_or l.entry-items k 0 ≡ (l.d + k) % l.n;
}
