-- Laws of the sum along a diagonal, also where one strip or two hold all the data, and of what one strip has on it. Assumes nothing.
-- x i j == the data of row i in strip j    y i == the data of row i in one strip
use Rattle.std.specs.Prelude.{ℕ, ◌<◌, ◌≡◌, ◌≢◌, eqb}
use Rattle.std.proofs.Math.Path.{ap}
use Rattle.std.proofs.Common.{◌∙◌}
use Rattle.std.proofs.Math.Decide.{ℕ_discrete}
use Rattle.code.specs.Xor.{◌⊕◌}
use Rattle.code.specs.Sum.{sum_to, only}
use Rattle.code.specs.SumLaws.{sum_to_ext, sum_to_nil, sum_to_add, sum_to_one, sum_to_two, sum_to_byte, only_no, only_zero, only_byte}
use Rattle.code.specs.Layout.{Layout}
use Rattle.code.specs.Sound.{along}

-- the sum of what strip c has on diagonal d
unfoldable pub strip_sum : Layout → (ℕ → ℕ) → ℕ → ℕ → ℕ
strip_sum L y c d = sum_to L.r (λ i. only (eqb (L.diagonal i c) d) (y i))

module _ (L : Layout) where
  -- equal data has equal sums
  pub along_ext : (x y : ℕ → ℕ → ℕ) (d : ℕ) → ((i j : ℕ) → i < L.r → j < L.n → x i j ≡ y i j) → along L x d ≡ along L y d
  unfolding along
  along_ext x y d h =
      sum_to_ext L.r _ _ (λ i li. sum_to_ext L.n _ _ (λ j lj. ap (λ (v : ℕ). only (eqb (L.diagonal i j) d) v) (h i j li lj)))

  -- bytes sum to a byte
  pub along_byte : (x : ℕ → ℕ → ℕ) (d : ℕ) → ((i j : ℕ) → i < L.r → j < L.n → x i j < 256) → along L x d < 256
  unfolding along
  along_byte x d h = sum_to_byte L.r _ (λ i li. sum_to_byte L.n _ (λ j lj. only_byte (eqb (L.diagonal i j) d) (x i j) (h i j li lj)))

  -- zeros sum to zero
  pub along_nil : (x : ℕ → ℕ → ℕ) (d : ℕ) → ((i j : ℕ) → i < L.r → j < L.n → x i j ≡ 0) → along L x d ≡ 0
  unfolding along
  along_nil x d h = sum_to_nil L.r _ (λ i li. sum_to_nil L.n _ (λ j lj. only_zero (eqb (L.diagonal i j) d) (x i j) (h i j li lj)))

  -- data in strip a alone
  pub along_one : (x : ℕ → ℕ → ℕ) (d a : ℕ) → a < L.n → ((i j : ℕ) → i < L.r → j < L.n → j ≢ a → x i j ≡ 0)
      → along L x d ≡ strip_sum L (λ i. x i a) a d
  unfolding along strip_sum
  along_one x d a la h =
      sum_to_ext L.r _ _ (λ i li. sum_to_one L.n (λ j. only (eqb (L.diagonal i j) d) (x i j)) a la
      (λ j lj ne. only_zero (eqb (L.diagonal i j) d) (x i j) (h i j li lj ne)))

  -- data in the strips a and b alone
  pub along_two : (x : ℕ → ℕ → ℕ) (d a b : ℕ) → a < b → b < L.n → ((i j : ℕ) → i < L.r → j < L.n → j ≢ a → j ≢ b → x i j ≡ 0)
      → along L x d ≡ strip_sum L (λ i. x i a) a d ⊕ strip_sum L (λ i. x i b) b d
  unfolding along strip_sum
  along_two x d a b l lb h =
      sum_to_ext L.r _ _ (λ i li. sum_to_two L.n (λ j. only (eqb (L.diagonal i j) d) (x i j)) a b l lb
      (λ j lj na nb. only_zero (eqb (L.diagonal i j) d) (x i j) (h i j li lj na nb)))
      ∙ sum_to_add L.r _ _

  -- ---- one strip

  -- equal strips have equal sums
  pub strip_sum_ext : (y z : ℕ → ℕ) (c d : ℕ) → ((i : ℕ) → i < L.r → y i ≡ z i) → strip_sum L y c d ≡ strip_sum L z c d
  unfolding strip_sum
  strip_sum_ext y z c d h = sum_to_ext L.r _ _ (λ i li. ap (λ (v : ℕ). only (eqb (L.diagonal i c) d) v) (h i li))

  -- rows that are zero wherever the strip has the diagonal sum to zero
  pub strip_sum_none : (y : ℕ → ℕ) (c d : ℕ) → ((k : ℕ) → k < L.r → L.diagonal k c ≡ d → y k ≡ 0) → strip_sum L y c d ≡ 0
  unfolding strip_sum
  strip_sum_none y c d h = sum_to_nil L.r _ (λ k lk. go k lk (ℕ_discrete (L.diagonal k c) d))
    where
      go : (k : ℕ) → k < L.r → Dec (L.diagonal k c ≡ d) → only (eqb (L.diagonal k c) d) (y k) ≡ 0
      go k lk (yes e) = only_zero (eqb (L.diagonal k c) d) (y k) (h k lk e)
      go k lk (no ne) = only_no (L.diagonal k c) d (y k) ne
