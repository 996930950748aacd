-- `rebuild` meets its contract: the checks come first; then the strips are ruined, and the stripe, which was sound, comes back. Assumes nothing.
use Rattle.std.proofs.Common.{rules, arith, ℕ, ◌≤◌, ◌<◌, ◌≡◌, sym, ◌∙◌, false, length, get_or}
use Rattle.code.specs.Below.{count}
use Rattle.shape.specs.Mask.{lost_in, above_test}
use Rattle.stripebench.specs.Numbers.{low_first}
use Rattle.stripebench.specs.CallLaws.{rebuild_above, rebuild_many, rebuild_back, rebuild_done, rebuild_never}
use Rattle.stripebench.proofs.NumbersLaws.{eight_bytes}
use Rattle.stripebench.proofs.calling.rebuild.Goals as goal

pub returns-then-above-clause-reply : goal.returns-then-above-clause-reply
returns-then-above-clause-reply c =
    let body : c.from_le_bytes-mask.result ≡ low_first c.args.body.now = c.from_le_bytes-mask.ensures ∙ eight_bytes c.args.body.now (search rules) in
    rebuild_above c.args.shape c.args.body.now c.args.stripe.now c.requires _ body (sym c.above.ensures ∙ search rules)

pub returns-then-lost-gt2-clause-reply : goal.returns-then-lost-gt2-clause-reply
returns-then-lost-gt2-clause-reply c =
    let body : c.from_le_bytes-mask.result ≡ low_first c.args.body.now = c.from_le_bytes-mask.ensures ∙ eight_bytes c.args.body.now (search rules) in
    rebuild_many c.args.shape c.args.body.now c.args.stripe.now c.requires _ body (sym c.above.ensures ∙ search rules) (omega (arith, c.lost_count-lost.ensures.is))

pub returns : goal.returns
returns c =
    let mask = c.from_le_bytes-mask.result in
    let body : mask ≡ low_first c.args.body.now = c.from_le_bytes-mask.ensures ∙ eight_bytes c.args.body.now (search rules) in
    let strips : above_test mask c.args.shape.n ≡ false = sym c.above.ensures ∙ search rules in
    let few : count 64 (lost_in mask) ≤ 2 = omega (arith, c.lost_count-lost.ensures.is) in
    let bytes : (i : ℕ) → i < length c.args.stripe.now → get_or c.args.stripe.now i 0 < 256 = λ i li. search rules in
    record {
      reply = rebuild_done _ c.args.body.now c.args.stripe.now c.requires mask body strips few bytes _ _ _ c.ruin.ensures c.rebuild.ensures _
          (c.from.ensures ∙ c.lost_count-lost.ensures.is);
      stripe = (rebuild_back _ c.args.body.now c.args.stripe.now c.requires mask body strips few bytes _ _ _ c.ruin.ensures c.rebuild.ensures).1;
    }

pub returns-in_err-rebuild : goal.returns-in_err-rebuild
returns-in_err-rebuild c =
    let bytes : (i : ℕ) → i < length c.args.stripe.now → get_or c.args.stripe.now i 0 < 256 = λ i li. grind arith in
    let mask = c.from_le_bytes-mask.result in
    let body : mask ≡ low_first c.args.body.now = c.from_le_bytes-mask.ensures ∙ eight_bytes c.args.body.now (search rules) in
    let strips : above_test mask c.args.shape.n ≡ false = sym c.above.ensures ∙ search rules in
    let few : count 64 (lost_in mask) ≤ 2 = omega (arith, c.lost_count-lost.ensures.is) in
    rebuild_never _ c.args.body.now c.args.stripe.now c.requires mask body strips few bytes _ _ _ c.ruin.ensures c.rebuild.ensures _ c.in_err-rebuild.was
