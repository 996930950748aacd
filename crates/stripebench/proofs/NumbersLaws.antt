-- What std reads from two and from eight bytes is their number, the low one first. Assumes nothing.
use Rattle.std.specs.Prelude.{◌≡◌, refl, List, [], ◌∷◌, ℕ, ◌+◌, ◌*◌, ◌<◌, length, get_or, take, drop}
use Rattle.std.proofs.Common.{sym, ap, ◌∙◌, arith, add-zero, length-take-le, length-drop, get_or-take, get_or-drop}
use Rattle.std.proofs.Math.Seq.{drop-length}
use Rattle.std.specs.Int.{w16, w64, from_le_bytes}
use Rattle.stripebench.specs.Numbers.{low_first, low_first_more}

-- no byte is left
none : (l : List ℕ) (k : ℕ) → length l ≡ k → low_first (drop k l) ≡ 0
unfolding low_first
none l k h = ap (λ (i : ℕ). low_first (drop i l)) (sym h) ∙ ap low_first (drop-length l)

-- two bytes of the body, from byte i on: x is what is read of them, and y is x as a wider number
pub two_bytes : (b : List ℕ) (i x y : ℕ) → i + 1 < length b → x ≡ from_le_bytes w16 (get_or b i 0 ∷ get_or b (i + 1) 0 ∷ []) → y ≡ x → y ≡ low_first (take 2 (drop i b))
two_bytes b i x y h p q =
    omega (arith, p, pair, low_first_more l 0 (omega (arith, long)), low_first_more l 1 (omega (arith, long)), none l 2 long, first, second)
  where
    l : List ℕ
    l = take 2 (drop i b)

    long : length (take 2 (drop i b)) ≡ 2
    long = length-take-le 2 (drop i b) (omega (arith, length-drop i b))

    pair : from_le_bytes w16 (get_or b i 0 ∷ get_or b (i + 1) 0 ∷ []) ≡ get_or b i 0 + get_or b (i + 1) 0 * 256
    pair = refl

    first : get_or (take 2 (drop i b)) 0 0 ≡ get_or b i 0
    first = get_or-take 2 (drop i b) 0 0 (omega (arith, long)) ∙ get_or-drop i b 0 0 ∙ ap (λ (k : ℕ). get_or b k 0) (add-zero i)

    second : get_or (take 2 (drop i b)) 1 0 ≡ get_or b (i + 1) 0
    second = get_or-take 2 (drop i b) 1 0 (omega (arith, long)) ∙ get_or-drop i b 1 0

-- the whole body
pub eight_bytes : (b : List ℕ) → length b ≡ 8 → from_le_bytes w64 b ≡ low_first b
eight_bytes b h =
    omega (
      arith,
      low_first_more b 0 (omega arith),
      low_first_more b 1 (omega arith),
      low_first_more b 2 (omega arith),
      low_first_more b 3 (omega arith),
      low_first_more b 4 (omega arith),
      low_first_more b 5 (omega arith),
      low_first_more b 6 (omega arith),
      low_first_more b 7 (omega arith),
      none b 8 h,
    )
