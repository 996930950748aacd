-- `write_shape` meets its contract: block after block, each a patch of three places. Assumes nothing.
use Rattle.std.proofs.Common.{rules, arith, sym, ap, ◌∙◌, ◌≡◌, ◌+◌, ◌-◌, ◌≤◌, ℕ, List, [], ◌++◌, append-nil, length, take, drop, length-drop, length-append}
use Rattle.std.proofs.lemmas.List.{drop-drop, take_all}
use Rattle.std.proofs.Math.Seq.{drop-append_seam}
use Rattle.code.specs.Shift.{shift}
use Rattle.code.proofs.ShiftLaws.{shift_fair}
use Rattle.patch.proofs.PatchLaws.{touches_spots, touches_patched, patched_block, patched_all}
use Rattle.patch.proofs.WrittenLaws.{patched_written}
use Rattle.patch.proofs.write_shape.Goals as goal

-- where a run is cut after its first c bytes and the next block
cut_rest : (c : ℕ) (v w z : List ℕ) → drop c v ≡ w ++ z → z ≡ drop (c + length w) v
cut_rest c v w z q = sym (drop-append_seam w z) ∙ ap (drop (length w)) (sym q) ∙ drop-drop (length w) c v

cut_within : (c : ℕ) (v w z : List ℕ) → drop c v ≡ w ++ z → c ≤ length v → c + length w ≤ length v
cut_within c v w z q l = omega (arith, ap length q, length-append w z, length-drop c v)

-- and where what follows them is its end
cut_last : (c : ℕ) (v : List ℕ) → drop c v ≡ take (length v - c) (drop c v) ++ []
cut_last c v = sym (append-nil (take (length v - c) (drop c v)) ∙ take_all (length v - c) (drop c v) (omega (arith, length-drop c v)))

cut_end : (c : ℕ) (v : List ℕ) → c ≤ length v → c + length (take (length v - c) (drop c v)) ≡ length v
cut_end c v l = omega (arith, ap length (take_all (length v - c) (drop c v) (omega (arith, length-drop c v))), length-drop c v)

pub patch-requires-clause-spots : goal.patch-requires-clause-spots
patch-requires-clause-spots c =
    let a = c.args in
    touches_spots (shift a.shape.n a.shape.r a.shape.s) (shift_fair a.shape.n a.shape.r a.shape.s (omega arith)) a.row a.strip c.requires.place.0 c.requires.place.1
    a.shape.e _ _ _ c.requires.size c.loop-block.invariant.patched.long c.places-t.ensures

pub loop-block-preserved : goal.loop-block-preserved
loop-block-preserved c =
    let inv = c.loop-block.invariant in
    let cut = sym inv.rest ∙ c.in-Some.ensures.steps.1.0 in
    let within = cut_within c.loop-block.c c.args.run.now c.in-Some.block.now _ cut inv.within in
    record {
      can_next = search rules;
      is_finite = search rules;
      size = search rules;
      rest = cut_rest _ _ _ _ cut;
      within = within;
      patched = patched_block _ _ _ _ _ _ _ _ _ _ _ _ cut (omega arith) inv.patched c.patch.ensures;
    }

pub patch-requires-then-left-clause-spots : goal.patch-requires-then-left-clause-spots
patch-requires-then-left-clause-spots c =
    let a = c.args in
    touches_spots (shift a.shape.n a.shape.r a.shape.s) (shift_fair a.shape.n a.shape.r a.shape.s (omega arith)) a.row a.strip c.requires.place.0 c.requires.place.1
    a.shape.e _ _ _ c.requires.size c.loop-block.invariant.patched.long c.places-t.ensures

pub returns-then-left : goal.returns-then-left
returns-then-left c =
    let a = c.args in
    let L = shift a.shape.n a.shape.r a.shape.s in
    let F = shift_fair a.shape.n a.shape.r a.shape.s (omega arith) in
    let inv = c.loop-block.invariant in
    let end = cut_end c.loop-block.c a.run.now inv.within in
    patched_written L a.shape.e a.row a.strip a.offset a.run.now a.stripe.now F c.requires.place.0 c.requires.place.1 c.requires.size _
    (touches_patched L F a.row a.strip c.requires.place.0 c.requires.place.1 a.shape.e a.offset (length a.run.now) _ _ _ c.places-t.result c.places-t.ensures
    (patched_all _ _ _ _ _ _ _ _ _ _ (omega (arith, end)) (omega (arith, end))
    (patched_block _ _ _ _ _ _ _ _ [] _ _ _ (cut_last c.loop-block.c a.run.now) (omega arith) inv.patched c.patch-then-left.ensures)))

pub returns-else-left : goal.returns-else-left
returns-else-left c =
    let a = c.args in
    let L = shift a.shape.n a.shape.r a.shape.s in
    let F = shift_fair a.shape.n a.shape.r a.shape.s (omega arith) in
    let inv = c.loop-block.invariant in
    let end = cut_end c.loop-block.c a.run.now inv.within in
    patched_written L a.shape.e a.row a.strip a.offset a.run.now a.stripe.now F c.requires.place.0 c.requires.place.1 c.requires.size _
    (touches_patched L F a.row a.strip c.requires.place.0 c.requires.place.1 a.shape.e a.offset (length a.run.now) _ _ _ c.places-t.result c.places-t.ensures
    (patched_all _ _ _ _ _ _ _ _ _ _ (omega arith) (omega arith) inv.patched))
