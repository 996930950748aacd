-- Laws of added: its length and its bytes, how the adder's loop ends, and a part that is lent in its place. Assumes nothing.
use Rattle.std.specs.Prelude.{◌≡◌, List, ◌++◌, ℕ, ◌+◌, ◌≤◌, ◌<◌, length, get_or, take, drop}
use Rattle.std.proofs.Common.{sym, ap, ◌∙◌, subst, arith, length-drop, get_or-take, get_or-drop, length-take-le, ext_get_or}
use Rattle.code.specs.Xor.{◌⊕◌}
use Rattle.code.specs.SumLaws.{length_table, get_or_table}
use Rattle.element.specs.Filled.{Filled}
use Rattle.element.specs.FilledLaws.{filled_begins, filled_part}
use Rattle.element.specs.Added.{added}

pub length_added : (part run : List ℕ) → length (added part run) ≡ length part
unfolding added
length_added part run = length_table (length part) (λ t. get_or part t 0 ⊕ get_or run t 0)

pub get_or_added : (part run : List ℕ) (t : ℕ) → t < length part → get_or (added part run) t 0 ≡ get_or part t 0 ⊕ get_or run t 0
unfolding added
get_or_added part run t lt = get_or_table (length part) (λ k. get_or part k 0 ⊕ get_or run k 0) 0 t lt

-- every byte of the part added to
pub added_filled : (part run y : List ℕ) → Filled part 0 (length part) (λ t. get_or part t 0 ⊕ get_or run t 0) y → y ≡ added part run
added_filled part run y p =
    ext_get_or 0 y (added part run) (p.long ∙ sym (length_added part run))
    (λ t lt.
    let l : t < length part = omega (arith, p.long) in
    (filled_begins part (length part) (λ k. get_or part k 0 ⊕ get_or run k 0) y p).each t l ∙ sym (get_or_added part run t l))

-- the m bytes from d on, lent and added to, in their place
filled_added : (s run : List ℕ) (d m : ℕ) → d + m ≤ length s
    → Filled s d m (λ t. get_or s (d + t) 0 ⊕ get_or run t 0) (take d s ++ (added (take m (drop d s)) run ++ drop m (drop d s)))
filled_added s run d m h =
    filled_part s d m (λ t. get_or s (d + t) 0 ⊕ get_or run t 0) (added (take m (drop d s)) run) h (length_added (take m (drop d s)) run ∙ long)
    (record {
      each = λ t lt.
          get_or_added (take m (drop d s)) run t (omega (arith, long))
          ∙ ap (λ (x : ℕ). x ⊕ get_or run t 0) (get_or-take m (drop d s) t 0 lt ∙ get_or-drop d s t 0);
    })
  where
    long : length (take m (drop d s)) ≡ m
    long = length-take-le m (drop d s) (omega (arith, length-drop d s))

-- the same, with the part's length l and what came back as the code has them
pub added_part : (s run y : List ℕ) (d m l : ℕ) → m ≡ l → d + m ≤ length s → y ≡ added (take l (drop d s)) run
    → Filled s d m (λ t. get_or s (d + t) 0 ⊕ get_or run t 0) (take d s ++ (y ++ drop l (drop d s)))
added_part s run y d m l e h q =
    subst (λ (n : ℕ). Filled s d m (λ t. get_or s (d + t) 0 ⊕ get_or run t 0) (take d s ++ (y ++ drop n (drop d s)))) e
    (subst (λ (x : List ℕ). Filled s d m (λ t. get_or s (d + t) 0 ⊕ get_or run t 0) (take d s ++ (x ++ drop m (drop d s))))
    (sym (q ∙ ap (λ (n : ℕ). added (take n (drop d s)) run) (sym e))) (filled_added s run d m h))
