-- What the exit of a `?` returns: the error that it met. Assumes nothing.
use Rattle.std.specs.Prelude.{◌≡◌, Result, Err, IsErrAnd}
use Rattle.std.proofs.Common.{◌∙◌, ap}
use Rattle.std.proofs.lemmas.Result.{err_from_is_err_and}

pub exit_is : {T E : Type 0} (r : Result T E) {y : E} → IsErrAnd r (λ z. z ≡ y) → r ≡ Err y
exit_is r x = let p = err_from_is_err_and r x in p.1 ∙ ap Err p.2
