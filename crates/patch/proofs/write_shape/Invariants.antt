-- `write_shape` meets its contract: block after block, and what is left, each a patch of three places. Assumes nothing.
use Rattle.std.proofs.Common.{◌≡◌, ◌-◌, ◌≤◌, length, drop, get_or}
use Rattle.std.specs.Slice.Iter.{chunks_exact_rest, chunks_exact_size}
use Rattle.patch.specs.Patch.{Patched}
use Rattle.patch.proofs.write_shape.Given as goal

abbrev pub invariant-loop-block : goal.invariant-loop-block
invariant-loop-block l = record {
  can_next : (goal.iterator-loop-block).can_next l.block-iterator;
  is_finite : (goal.iterator-loop-block).is_finite l.block-iterator;
  size : chunks_exact_size l.block-iterator ≡ 128;
  rest : chunks_exact_rest l.block-iterator ≡ drop l.c l.run;
  within : l.c ≤ length l.run;
  patched : Patched l.e l.t.x l.t.h l.t.u l.offset l.c (λ k. get_or l.run (k - l.offset) 0) l.initial.stripe l.stripe;
}
