-- The number of a rebuild: what is accepted, and whether what comes last decides. Assumes nothing.
-- len == the bytes of the lent buffer
use Rattle.std.specs.Prelude.{◌≡◌, false, ℕ, ◌≤◌}
use Rattle.code.specs.Below.{count}
use Rattle.code.specs.Bound.{Good}
use Rattle.shape.specs.Limits.{Limits}
use Rattle.shape.specs.Mask.{lost_in, above_test}
use Rattle.shape.specs.Call.{bytes_of}
use Rattle.rebuild.specs.Rebuild.{rebuild_number}

-- a good shape, a stripe's length, and a mask of at most two of the strips 0 to n
pub record Accepted (n r s e len mask : ℕ) : Type 0 where
  pub limits : Limits n r s e
  pub good : Good n r s
  pub sized : len ≡ bytes_of n r e
  pub strips : above_test mask n ≡ false
  pub few : count 64 (lost_in mask) ≤ 2

-- a number of 1 to 8 whatever comes last, or accepted
pub data Numbered (n r s e len mask : ℕ) : Type 0 where
  early : (z : ℕ) → 1 ≤ z → z ≤ 8 → ((last : ℕ) → rebuild_number n r s e len mask last ≡ z) → Numbered n r s e len mask
  late : Accepted n r s e len mask → Numbered n r s e len mask
