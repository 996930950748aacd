-- `diagonals_of` meets its contract: the rows passed are filled, and d starts the next. Assumes nothing.
use Rattle.std.proofs.Common.{ℕ, ◌+◌, ◌%◌, ◌<◌, [], get_or}
use Rattle.shape.specs.Answers.{Among}
use Rattle.shape.specs.Map.{Turned}
use Rattle.shape.proofs.map.diagonals_of.Given as goal

abbrev pub invariant-loop-row : goal.invariant-loop-row
invariant-loop-row l = record {
  next : Among l.n ((l.initial.d + l.row-index) % l.n) l.d;
  rows : (i : ℕ) → i < l.row-index → Turned (get_or l.row-items i []) (l.initial.d + i) l.n l.n;
}
