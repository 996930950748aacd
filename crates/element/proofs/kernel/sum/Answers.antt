-- `sum` meets its contract: the first m bytes of the sum, up to three sources one by one and then four a turn. Assumes nothing.
use Rattle.std.proofs.Common.{arith, ◌≡◌, ℕ, List, [], ◌+◌, ◌*◌, ◌/◌, ◌%◌, ◌<◌, length, get_or, length-drop}
use Rattle.element.proofs.Parts.{Part, fits_of, chunk_of, part_after, part_one}
use Rattle.std.specs.Prelude.{drop}
use Rattle.std.specs.Simd.{first_chunks}
use Rattle.element.proofs.SofarLaws.{sofar_none, sofar_at, sofar_more, sofar_all}
use Rattle.element.proofs.kernel.sum.Goals as goal

-- of the sources that as_rchunks takes by four, those of turn j
four_of : (os : List ℕ) (fs : List (List ℕ)) (j : ℕ) → fs ≡ first_chunks 4 (length os / 4) (drop (length os % 4) os) → j < length os / 4
    → (length (get_or fs j []) ≡ 4) × Part os (length os % 4 + 4 * j) (get_or fs j [])
four_of os fs j e lt =
    let p = chunk_of 4 (length os / 4) j (drop (length os % 4) os) fs (omega (arith, length-drop (length os % 4) os)) e lt in
    (p.0, part_after os (get_or fs j []) (length os % 4) (4 * j) (omega arith) p.1)

pub loop-one-init : goal.loop-one-init
loop-one-init c =
    sofar_none _ _ _ _ (omega arith)

pub loop-one-preserved : goal.loop-one-preserved
loop-one-preserved c =
    let p = part_one c.args.offs.now _ _ c.loop-one.one-index (omega arith) c.as_rchunks.ensures.front c.loop-one-test.true in
    sofar_more _ _ _ _ _ _ _ _ _ (omega arith) p c.loop-one.invariant c.add.ensures

pub loop-four-init : goal.loop-four-init
loop-four-init c =
    sofar_at _ _ _ _ _ _ _ (omega (arith, c.as_rchunks.ensures.front_len)) c.loop-one.invariant

pub loop-four-preserved : goal.loop-four-preserved
loop-four-preserved c =
    let j : c.loop-four.four-index < length c.args.offs.now / 4 = omega (arith, c.as_rchunks.ensures.back_len) in
    let p = four_of c.args.offs.now _ c.loop-four.four-index c.as_rchunks.ensures.back j in
    sofar_more _ _ _ _ _ _ _ _ _ (omega (arith, p.0)) p.1 c.loop-four.invariant c.add-in-loop-four.ensures

pub add-requires-in-loop-four : goal.add-requires-in-loop-four
add-requires-in-loop-four c =
    let j : c.loop-four.four-index < length c.args.offs.now / 4 = omega (arith, c.as_rchunks.ensures.back_len) in
    let p = four_of c.args.offs.now _ c.loop-four.four-index c.as_rchunks.ensures.back j in
    (omega arith, ((c.loop-four.invariant.long, c.requires.1), fits_of _ _ _ _ _ p.1 c.requires.0))

pub returns : goal.returns
returns c =
    sofar_all _ _ _ _ _ _ (omega (arith, c.as_rchunks.ensures.back_len)) c.loop-four.invariant
