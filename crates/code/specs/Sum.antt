-- Sums by exclusive or, tables and tests: the words in which every formula is written. Assumes nothing.
-- sum_to n f == f 0 ⊕ .. ⊕ f (n - 1)    sum f ps == the sum of f over the list ps    table n g == the list g 0, .., g (n - 1)
-- pick t x y == x where the test t holds, else y    only t v == v where t holds, else 0
use Rattle.std.specs.Prelude.{Bool, true, false, List, [], ◌∷◌, ℕ, zero, suc}
use Rattle.code.specs.Xor.{◌⊕◌}

unfoldable pub sum_to : ℕ → (ℕ → ℕ) → ℕ
sum_to zero f = 0
sum_to (suc n) f = sum_to n f ⊕ f n

unfoldable pub sum : (ℕ → ℕ) → List ℕ → ℕ
sum f [] = 0
sum f (p ∷ ps) = f p ⊕ sum f ps

unfoldable pub table : ℕ → (ℕ → ℕ) → List ℕ
table zero g = []
table (suc n) g = g 0 ∷ table n (λ i. g (suc i))

abbrev pub pick : {A : Type 0} → Bool → A → A → A
pick true x y = x
pick false x y = y

abbrev pub only : Bool → ℕ → ℕ
only t v = pick t v 0
