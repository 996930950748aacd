-- `Listing::diagonal` meets its contract: the diagonal's elements of the rows passed are listed, and o is where that of the next row starts.
-- Assumes nothing.
use Rattle.std.proofs.Common.{rules, arith, ◌∙◌, ap, ℕ, ◌+◌}
use Rattle.std.proofs.lemmas.Grind.{common_steps}
use Rattle.lines.specs.ListedLaws.{diagonal_listed, next_back, next_round}
use Rattle.lines.proofs.listing.Listing.diagonal.Goals as goal
use Rattle.lines.proofs.listing.Listing.diagonal.Goals.{then-back-o, else-back-o}

pub loop-i-preserved : goal.loop-i-preserved
loop-i-preserved c = record {
  next = λ l.
      let next = c.loop-i.invariant.next (omega arith) in
      elim c.if-back-o.branch [
        | then-back-o w ↦ w.o-is ∙ next_back _ _ _ _ _ _ _ (omega arith) (omega arith) l next w.if-back-o.true
        | else-back-o w ↦ w.o-is
            ∙ ap (λ (x : ℕ). c.loop-i.o + x) c.start-wrap.ensures
            ∙ next_round _ _ _ _ _ _ _ (omega arith) (omega arith) l next w.if-back-o.false
      ];
  listed = grind (arith, common_steps, c.loop-i.invariant.next);
}

pub returns : goal.returns
returns c =
    diagonal_listed _ _ _ _ _ c.args.shape.limits.r_high (search rules) (λ v l. c.loop-i.invariant.listed v (omega arith)) c.start.ensures
