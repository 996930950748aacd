-- `widest` meets its contract: the table is q's, every entry computed. Assumes nothing.
use Rattle.std.proofs.Common.{arith, ℕ, ◌<◌, ◌≤◌, ◌≡◌, refl, ap, ◌∙◌, List, [], ◌∷◌, get_or}
use Rattle.std.proofs.Math.Nat.{div-le_self}
use Rattle.code.specs.Sum.{table}
use Rattle.code.specs.SumLaws.{get_or_table}
use Rattle.code.specs.Bound.{q, pr, searched}
use Rattle.shape.proofs.bound.widest.Goals as goal

entries : List ℕ
entries =
    0 ∷ 1 ∷ 1 ∷ 1 ∷ 2 ∷ 1 ∷ 3 ∷ 1 ∷ 4 ∷ 3 ∷ 5 ∷ 1 ∷ 6 ∷ 1 ∷ 7 ∷ 5 ∷ 8 ∷ 1 ∷ 9 ∷ 1 ∷ 10 ∷ 7 ∷ 11 ∷ 1 ∷ 12 ∷ 5 ∷ 13 ∷ 9 ∷ 14 ∷ 1 ∷ 15 ∷ 1 ∷ 16 ∷ []

whole : entries ≡ table 33 q
unfolding entries table q pr searched
whole = refl

entry : (n : ℕ) → n < 33 → get_or entries n 0 ≡ q n
entry n l = ap (λ (x : List ℕ). get_or x n 0) whole ∙ get_or_table 33 q 0 n l

small : (n : ℕ) → q n ≤ n
unfolding q
small n = div-le_self n (pr n)

pub overflow_cast-result : goal.overflow_cast-result
unfolding entries
overflow_cast-result c =
    omega (arith, entry c.args.n (omega arith), small c.args.n)

pub returns : goal.returns
unfolding entries
returns c =
    let e = entry c.args.n (omega arith) in
    record { is = e; below = omega (arith, small c.args.n) }
