-- What `one` leaves where the line of a record that was done could not be written. Assumes nothing.
use Rattle.std.proofs.Common.{◌≡◌, List, [], ◌∷◌, ◌++◌, ℕ, slice_index, OnErr, arith, ◌∙◌, ap, subst}
use Rattle.std.proofs.KnownBytes.{Consumes-trans}
use Rattle.std.proofs.lemmas.Grind.{common_steps}
use Rattle.std.specs.Io.KnownBytes.{Consumes}
use Rattle.std.specs.declared.option.Option.{Option}
use Rattle.std.specs.declared.result.Result.{Result}
use Rattle.std.specs.declared.result.Result.TheVariants.{Ok, Err}
use Rattle.stripebench.specs.Following.{done}
use Rattle.stripebench.proofs.one.Goals as goal

on_err : {T E P : Type 0} (r : Result T E) → P → OnErr r P
on_err (Ok x) p = tt
on_err (Err y) p = p

-- two reads, one after the other, took both pieces
both : (a b c : Option (List ℕ)) (xs ys : List ℕ) (kind : ℕ) (body : List ℕ) → Consumes a b xs → Consumes b c ys → xs ≡ kind ∷ [] → ys ≡ body → Consumes a c (kind ∷ body)
both a b c xs ys kind body p q e f =
    subst (Consumes a c) (ap (λ l. l ++ ys) e ∙ ap (λ l. kind ∷ l) f) (Consumes-trans a b c xs ys p q)

pub returns-in_err-line-clause-err : goal.returns-in_err-line-clause-err
returns-in_err-line-clause-err g c =
    on_err _ (done (record {
      kind = slice_index c.read_full.new.buffer 0;
      says = c.in-Ok.record;
      kinds = c.in-Ok.ensures;
      body = _;
      whole = grind (arith, common_steps);
      taken = both _ _ _ _ _ _ _ c.in_ok-got.ensures.bytes c.in_ok-whole.ensures.bytes (grind (arith, common_steps)) (grind (arith, common_steps));
      answer = c.act-answer.result;
      acts = c.act-answer.ensures;
    }))
