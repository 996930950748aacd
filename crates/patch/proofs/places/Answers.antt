-- `places` meets its contract: X, H and U of the diagonal. Assumes nothing.
use Rattle.std.proofs.Common.{ap, ◌∙◌}
use Rattle.code.specs.Layout.{U}
use Rattle.code.specs.Shift.{shift}
use Rattle.patch.proofs.places.Goals as goal

pub returns : goal.returns
returns c =
    record {
      x_is = c.place-x.ensures.is;
      h_is = c.place-h.ensures.is;
      u_is = c.place-u.ensures.is ∙ ap (U (shift c.args.shape.n c.args.shape.r c.args.shape.s)) c.diagonal-d.ensures.is;
    }
