-- A line that does not sum to zero in some byte. Assumes nothing.
-- unbalanced e s ps == the places ps do not sum to zero in some byte
use Rattle.std.specs.Prelude.{Bool, not, List, ℕ, eqb}
use Rattle.code.specs.Sum.{sum}
use Rattle.code.specs.Below.{some}
use Rattle.code.specs.Place.{at}

unfoldable pub unbalanced : ℕ → List ℕ → List ℕ → Bool
unbalanced e s ps = some e (λ k. not (eqb (sum (at s e k) ps) 0))
