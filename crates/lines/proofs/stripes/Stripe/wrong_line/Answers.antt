-- `wrong_line` meets its contract: the line, as it is listed, does not sum to zero in some byte. Assumes nothing.
use Rattle.lines.specs.TestingLaws.{listed_fit, listed_wrong}
use Rattle.lines.proofs.stripes.Stripe.wrong_line.Goals as goal

pub is_zero-requires : goal.is_zero-requires
is_zero-requires c =
    rw (c.starts.ensures) (listed_fit _ _ _ _ _ _ _ c.args.self.shape.limits c.requires.line c.line.ensures _ c.args.self.sized)

pub returns : goal.returns
returns c =
    listed_wrong _ _ _ _ _ _ _ c.args.self.shape.limits c.requires.line c.line.ensures _ _ (rw (← c.starts.ensures) c.is_zero.ensures)
