-- Laws of a line tested: is_zero on the listed line tells whether it is unbalanced. Assumes nothing.
-- os == where the elements of line t start    m == how many they are
use Rattle.std.specs.Prelude.{◌≡◌, refl, Bool, true, false, not, List, ℕ, ◌+◌, ◌<◌, eqb, length, take}
use Rattle.std.proofs.Common.{sym, ap, ◌∙◌, arith, get_or-take, length-take-le, eq-eqb, eqb-true}
use Rattle.std.proofs.lemmas.Bool.{not-false}
use Rattle.code.specs.Sum.{sum}
use Rattle.code.specs.SumLaws.{clash}
use Rattle.code.specs.Below.{some}
use Rattle.code.specs.BelowLaws.{none_some, some_none}
use Rattle.code.specs.Place.{at}
use Rattle.code.specs.Layout.{places, line}
use Rattle.code.specs.LayoutLaws.{layout_within}
use Rattle.code.specs.Shift.{shift}
use Rattle.element.specs.Gather.{Fits, Tells}
use Rattle.element.specs.Placed.{Offsets, TellsAt}
use Rattle.element.specs.PlacedLaws.{offsets_fit, tells_places}
use Rattle.shape.specs.Limits.{Limits}
use Rattle.shape.specs.Call.{bytes_of}
use Rattle.shape.specs.LimitsLaws.{limits_fair}
use Rattle.lines.specs.Listed.{Listed}
use Rattle.lines.specs.ListedCount.{listed_count}
use Rattle.lines.specs.Unbalanced.{unbalanced}

-- not zero exactly when some byte is not
tells_some : (b : List ℕ) (e : ℕ) (ps : List ℕ) (z : Bool) → TellsAt b e ps z → not z ≡ some e (λ k. not (eqb (sum (at b e k) ps) 0))
tells_some b e ps true p = sym (none_some e _ (λ k lk. ap not (eq-eqb (sum (at b e k) ps) 0 (p.yes refl k lk))))
tells_some b e ps false p = sym (go (some e (λ k. not (eqb (sum (at b e k) ps) 0))) refl)
  where
    go : (x : Bool) → some e (λ k. not (eqb (sum (at b e k) ps) 0)) ≡ x → x ≡ true
    go true q = refl
    go false q = clash (p.no (λ k lk. eqb-true (sum (at b e k) ps) 0 (not-false (eqb (sum (at b e k) ps) 0) (some_none e _ q k lk))))

module _ (n r s e t m : ℕ) (os : List ℕ) (l : Limits n r s e) (lt : t < r + n) (p : Listed (shift n r s) e t os m) where
  pub listed_long : m ≡ length (take m os)
  listed_long = sym (length-take-le m os (omega (arith, p.room, (listed_count n r s e t os m l lt p).high)))

  offsets : Offsets e (line (shift n r s) t) (take m os)
  offsets =
      record {
        long = sym listed_long ∙ p.count;
        each = λ i li. let h : i < m = omega (arith, p.count) in get_or-take m os i 0 h ∙ p.each i h;
      }

  pub listed_fit : (b : List ℕ) → length b ≡ bytes_of n r e → Fits b e (take m os)
  listed_fit b z =
      let F = limits_fair n r s _ l in
      offsets_fit b (line (shift n r s) t) (take m os) e (places (shift n r s)) z offsets (λ v lv. (layout_within (shift n r s) F).below t v lt lv)

  -- its sum is not zero exactly when it is wrong
  pub listed_wrong : (b : List ℕ) (z : Bool) → Tells b e (take m os) z → not z ≡ unbalanced e b (line (shift n r s) t)
  unfolding unbalanced
  listed_wrong b z h = tells_some b e _ z (tells_places b (line (shift n r s) t) (take m os) e z offsets h)
