-- What a shape answers of itself. Assumes nothing.
use Rattle.std.specs.Prelude.{◌≡◌, ℕ, ◌+◌, ◌-◌, ◌*◌, ◌≤◌, ◌<◌}
use Rattle.std.proofs.Common.{mul-le-mul, arith}
use Rattle.shape.specs.Limits.{Limits}

-- b is the size of a stripe in bytes: e (n (r + 1) + r), at most 4096 (32 * 33 + 32)
pub record Sized (n r e b : ℕ) : Type 0 where
  pub bytes : b ≡ e * (n * (r + 1) + r)
  pub most : b ≤ 4456448

-- x is this value, which is one of the numbers 0 to n - 1
pub record Among (n value x : ℕ) : Type 0 where
  pub is : x ≡ value
  pub below : x < n

module _ (n r s e : ℕ) (l : Limits n r s e) where
  pub places_most : n * (r + 1) ≤ 1056
  places_most = let k : r + 1 ≤ 33 = omega (arith, l.r_high) in mul-le-mul l.n_high k

  pub bytes_most : e * (n * (r + 1) + r) ≤ 4456448
  bytes_most = let k : n * (r + 1) + r ≤ 1088 = omega (arith, places_most, l.r_high) in mul-le-mul l.e_high k

  -- what the diagonal's difference has in front is small, and not below what is taken off
  pub front_most : n * (r - 1 + s) ≤ 1984
  front_most = let k : r - 1 + s ≤ 62 = omega (arith, l.r_high, l.s_high, l.n_high) in mul-le-mul l.n_high k

  pub front_enough : r - 1 + s ≤ n * (r - 1 + s)
  front_enough =
      let one : 1 ≤ n = omega (arith, l.n_low) in
      let same : r - 1 + s ≤ r - 1 + s = omega arith in
      let product : 1 * (r - 1 + s) ≤ n * (r - 1 + s) = mul-le-mul one same in
      omega arith
