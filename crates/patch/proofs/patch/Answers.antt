-- `patch` meets its contract: old and new bytes added at three places. Assumes nothing.
use Rattle.std.proofs.Common.{arith, ap, ℕ, get_or}
use Rattle.patch.proofs.PatchLaws.{patched_fills, patched_new}
use Rattle.patch.proofs.patch.Goals as goal

pub returns : goal.returns
returns c =
    patched_new _ _ _ _ _ _ _ _ _ _ (λ k lo lk. ap (λ (i : ℕ). get_or c.args.block.now i 0) (omega arith))
    (patched_fills _ _ _ _ _ _ 0 _ _ _ _ _ _ c.requires.spots c.requires.block.0 c.requires.block.1
    c.delta-d.ensures c.add_at.ensures c.add_at-2.ensures c.add_at-3.ensures)
