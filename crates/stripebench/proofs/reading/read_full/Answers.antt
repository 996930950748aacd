-- What `read_full` has filled grows by what a read took from the input. Assumes nothing.
use Rattle.std.proofs.Common.{◌≡◌, ℕ, ◌+◌, ◌-◌, ◌≤◌, List, ◌++◌, length, take, rules, sym, ap, ◌∙◌, subst, length-take-le}
use Rattle.std.proofs.KnownBytes.{Consumes-trans}
use Rattle.std.proofs.Math.Seq.{take-append-add}
use Rattle.std.proofs.lemmas.List.{take-append-le}
use Rattle.std.specs.Io.KnownBytes.{Consumes}
use borrow.Rule.Slice.PartMut.{put_mid, post_of}
use Rattle.stripebench.proofs.reading.read_full.Goals as goal

-- the first a bytes, and then n of the part that stands after them
filled_more : (a k n : ℕ) (old part : List ℕ) → a ≤ length old → n ≤ length part → take a old ++ take n part ≡ take (a + n) (put_mid a k old part)
filled_more a k n old part within fits =
    let rest = part ++ post_of a k old in
    ap (λ l. take a old ++ l) (sym (take-append-le n part (post_of a k old) fits)) ∙ sym (take-append-add (take a old) rest n)
    ∙ ap (λ m. take (m + n) (take a old ++ rest)) (length-take-le a old within)

pub loop-done-preserved : goal.loop-done-preserved
loop-done-preserved g c =
    let grown = filled_more c.loop-done.done (length c.loop-done.buffer - c.loop-done.done) c.in_ok-n.n c.loop-done.buffer c.read.new.buf c.loop-done.invariant.1
    c.in_ok-n.ensures.bound.0 in
    (search rules, search rules, subst (Consumes _ _) grown (Consumes-trans _ _ _ _ _ c.loop-done.invariant.2 c.in_ok-n.ensures.bytes.0))
