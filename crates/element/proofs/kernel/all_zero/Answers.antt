-- `all_zero` meets its contract: the or of the bytes is zero exactly when they are. Assumes nothing.
use Rattle.std.proofs.Common.{◌≡◌, rules, sym, subst, ℕ, length, get_or, nat_eq}
use Rattle.std.specs.Int.Bits.{bit_or}
use Rattle.std.specs.List.{fold}
use Rattle.std.proofs.lemmas.Iterator.{YieldsList-from_slice}
use Rattle.std.proofs.lemmas.Iterator.Consumers.{fold_from_yields_List}
use Rattle.element.specs.Gather.{AllZero}
use Rattle.element.proofs.GatherLaws.{or_tells}
use Rattle.element.proofs.kernel.all_zero.Goals as goal

pub returns : goal.returns
returns c =
    let run = c.args.run.now in
    let e : c.fold.result ≡ fold bit_or 0 run =
    fold_from_yields_List _ bit_or 0 _ c.fold.ensures.ran (YieldsList-from_slice run (cc)) (λ a x b q k. search rules) in
    subst (λ (n : ℕ). AllZero (length run) (λ t. get_or run t 0) (nat_eq n 0)) (sym e) (or_tells run)
