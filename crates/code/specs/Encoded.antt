-- ENCODED: the stripe with given data and every H and U at its value. It is sound, and its bytes are bytes where the data's are.
-- Assumes nothing.
-- x i j == the data of row i in strip j
use Rattle.std.specs.Prelude.{ℕ, ◌<◌, ◌≡◌, Bool, ltb}
use Rattle.std.proofs.Common.{sym, ◌∙◌, subst, arith, lt-ltb, le-ltb}
use Rattle.std.proofs.Math.Path.{ap, ap₂}
use Rattle.code.specs.Sum.{sum_to, pick}
use Rattle.code.specs.SumLaws.{sum_to_ext, sum_to_byte}
use Rattle.code.specs.Code.{Balanced, Bytes}
use Rattle.code.specs.Place.{place, strip_of, row_of, place_strip, place_row}
use Rattle.code.specs.Layout.{Layout, Fair, height, X, H, U, code}
use Rattle.code.specs.LayoutLaws.{by_places}
use Rattle.code.specs.Sound.{along, Sound}
use Rattle.code.specs.SoundLaws.{sound_balanced}
use Rattle.code.specs.AlongLaws.{along_ext, along_byte}

-- what stands in row i of strip j: data, below it the U that the strip stores, and on strip n the H of the row
unfoldable pub standing : Layout → (ℕ → ℕ → ℕ) → ℕ → ℕ → ℕ
standing L x i j = pick (ltb j L.n) (pick (ltb i L.r) (x i j) (along L x (L.owner j))) (sum_to L.n (x i))

-- the same by places
unfoldable pub encoded : Layout → (ℕ → ℕ → ℕ) → ℕ → ℕ
encoded L x p = standing L x (row_of (height L) p) (strip_of (height L) p)

-- ---- what it holds

module _ (L : Layout) (x : ℕ → ℕ → ℕ) where
  standing_data : (i j : ℕ) → i < L.r → j < L.n → standing L x i j ≡ x i j
  unfolding standing
  standing_data i j li lj =
      ap (λ (t : Bool). pick t (pick (ltb i L.r) (x i j) (along L x (L.owner j))) (sum_to L.n (x i))) (lt-ltb j L.n lj)
      ∙ ap (λ (t : Bool). pick t (x i j) (along L x (L.owner j))) (lt-ltb i L.r li)

  standing_U : (j : ℕ) → j < L.n → standing L x L.r j ≡ along L x (L.owner j)
  unfolding standing
  standing_U j lj =
      ap (λ (t : Bool). pick t (pick (ltb L.r L.r) (x L.r j) (along L x (L.owner j))) (sum_to L.n (x L.r))) (lt-ltb j L.n lj)
      ∙ ap (λ (t : Bool). pick t (x L.r j) (along L x (L.owner j))) (le-ltb L.r L.r (omega arith))

  standing_H : (i : ℕ) → standing L x i L.n ≡ sum_to L.n (x i)
  unfolding standing
  standing_H i = ap (λ (t : Bool). pick t (pick (ltb i L.r) (x i L.n) (along L x (L.owner L.n))) (sum_to L.n (x i))) (le-ltb L.n L.n (omega arith))

  -- at the place of row i of strip j
  encoded_at : (i j : ℕ) → i < height L → encoded L x (place (height L) i j) ≡ standing L x i j
  unfolding encoded
  encoded_at i j l = ap₂ (standing L x) (place_row (height L) i j l) (place_strip (height L) i j l)

  -- data as given
  pub encoded_X : (i j : ℕ) → i < L.r → j < L.n → encoded L x (X L i j) ≡ x i j
  encoded_X i j li lj = encoded_at i j (omega arith) ∙ standing_data i j li lj

  -- H(i) is the sum of its row
  pub encoded_H : (i : ℕ) → i < L.r → encoded L x (H L i) ≡ sum_to L.n (x i)
  encoded_H i li = encoded_at i L.n (omega arith) ∙ standing_H i

  module _ (F : Fair L) where
    -- U(d) is the sum of its diagonal
    pub encoded_U : (d : ℕ) → d < L.n → encoded L x (U L d) ≡ along L x d
    encoded_U d ld = encoded_at L.r (L.home d) (omega arith) ∙ standing_U (L.home d) (F.home_lt d ld) ∙ ap (along L x) (F.owner_home d ld)

    -- every H and U has its value
    pub encoded_sound : Sound L (encoded L x)
    encoded_sound =
        record {
          rows = λ i li. encoded_H i li ∙ sum_to_ext L.n (x i) (λ j. encoded L x (X L i j)) (λ j lj. sym (encoded_X i j li lj));
          diagonals = λ d ld. encoded_U d ld ∙ along_ext L x (λ i j. encoded L x (X L i j)) d (λ i j li lj. sym (encoded_X i j li lj));
        }

    -- so every line sums to zero
    pub encoded_balanced : Balanced (code L) (encoded L x)
    encoded_balanced = sound_balanced L F (encoded L x) encoded_sound

    -- bytes where the data is bytes
    pub encoded_bytes : ((i j : ℕ) → i < L.r → j < L.n → x i j < 256) → Bytes (code L) (encoded L x)
    encoded_bytes h =
        record {
          small = by_places L F (λ p. encoded L x p < 256)
              (λ i j li lj. subst (λ (v : ℕ). v < 256) (sym (encoded_X i j li lj)) (h i j li lj))
              (λ i li. subst (λ (v : ℕ). v < 256) (sym (encoded_H i li)) (sum_to_byte L.n (x i) (λ j lj. h i j li lj)))
              (λ d ld. subst (λ (v : ℕ). v < 256) (sym (encoded_U d ld)) (along_byte L x d h));
        }
