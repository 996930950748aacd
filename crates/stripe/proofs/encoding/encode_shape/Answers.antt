-- `encode_shape` meets its contract: the data is as at entry, and every line passed sums to zero. Assumes nothing.
use Rattle.std.proofs.Common.{arith, ◌∙◌}
use Rattle.code.proofs.ShiftLaws.{shift_fair}
use Rattle.stripe.specs.ParityLaws.{last_within}
use Rattle.stripe.specs.EncodeLaws.{encoded_more, encoded_all}
use Rattle.stripe.proofs.encoding.encode_shape.Goals as goal

pub build-requires : goal.build-requires
build-requires c =
    record { line = (omega arith, last_within _ _ _ (omega arith) c.parity_in.ensures); size = c.loop-t.invariant.size ∙ c.requires }

pub loop-t-preserved : goal.loop-t-preserved
loop-t-preserved c =
    let a = c.args.shape in
    encoded_more _ (shift_fair a.n a.r a.s (omega arith)) _ _ _ _ c.loop-t.invariant _ _ (omega arith) c.parity_in.ensures c.build.ensures

pub returns : goal.returns
returns c =
    let a = c.args.shape in
    encoded_all _ (shift_fair a.n a.r a.s (omega arith)) _ _ _ _ c.loop-t.invariant (omega arith)
