-- How a buffer is opened: from judge's answer and the buffer's length; and what a call's number 0 says. Assumes nothing.
use Rattle.std.specs.Prelude.{◌≡◌, refl, ◌≢◌, Bool, true, false, ℕ, eqb, Ok, Err}
use Rattle.std.proofs.Common.{sym, ap, ◌∙◌, subst, arith, eqb-true}
use Rattle.code.specs.Sum.{pick}
use Rattle.code.specs.Bound.{Good}
use Rattle.shape.specs.declared.shapes.Shape.{Shape}
use Rattle.shape.specs.declared.refusal.Refusal.{Refusal}
use Rattle.shape.specs.declared.refusal.Refusal.TheVariants.{Length}
use Rattle.shape.specs.Limits.{Limits, FirstOutside, strips, rows, shift, element, none}
use Rattle.shape.specs.LimitsLaws.{first_outside}
use Rattle.shape.specs.GoodTest.{good_test, test_good}
use Rattle.shape.specs.Call.{bytes_of, call_number, Answered}
use Rattle.shape.specs.Judge.{Judged, Judges}
use Rattle.shape.specs.JudgeLaws.{good_refused}
use Rattle.shape.specs.JudgedCall.{refused_answered, good_limits, good_good, length_answered}
use Rattle.stripe.specs.Opened.{Opened, Opens}

module _ (n r s e len : ℕ) (x : Judged) (j : Judges n r s e x) where
  pub opens_refused : (y : Refusal) → x ≡ Err y → Opens n r s e len (Err y)
  opens_refused y q =
      record {
        opened = λ h b w. good_refused h b y (sym w);
        size = λ h b w. good_refused h b y (sym w);
        refused = λ z w last. refused_answered n r s e x j z (it z w) len last;
      }
    where
      it : (z : Refusal) → ◌≡◌ {A = Judged} (Err y) (Err z) → x ≡ Err z
      it z w = let k : y ≡ z = cc in q ∙ ap Err k

  module _ (h : Shape) (b : ℕ) (q : x ≡ Ok (h, b)) where
    pub opens_length : len ≢ b → Opens n r s e len (Err Length)
    opens_length ne =
        record {
          opened = λ g c w. good_refused g c Length (sym w);
          size = λ g c w. good_refused g c Length (sym w);
          refused = λ z w last.
              subst (λ (y : Refusal). Answered n r s (call_number n r s e len last) (Err y)) (it z w)
              (length_answered n r s e (good_limits n r s e x j h b q) (good_good n r s e x j h b q) len last (λ z. ne (z ∙ sym (j.good h b q).1)));
        }
      where
        it : (z : Refusal) → ◌≡◌ {A = Judged} (Err Length) (Err z) → Length ≡ z
        it z w = cc

    pub opens_good : len ≡ b → Opens n r s e len (Ok (h, b))
    opens_good l =
        record {
          opened = λ g c w. subst (λ (k : Shape). Opened n r s e len k) (same g c w) here;
          size = λ g c w. all g c w ∙ sym l;
          refused = λ z w last. good_refused h b z w;
        }
      where
        here : Opened n r s e len h
        here = record { shape = (j.good h b q).0; limits = good_limits n r s e x j h b q; good = good_good n r s e x j h b q; sized = l ∙ (j.good h b q).1 }

        parts : Judged → Shape × ℕ
        parts (Ok p) = p
        parts (Err y) = (h, b)

        same : (g : Shape) (c : ℕ) → ◌≡◌ {A = Judged} (Ok (h, b)) (Ok (g, c)) → h ≡ g
        same g c w = ap (λ (k : Judged). (parts k).0) w

        all : (g : Shape) (c : ℕ) → ◌≡◌ {A = Judged} (Ok (h, b)) (Ok (g, c)) → c ≡ b
        all g c w = sym (ap (λ (k : Judged). (parts k).1) w)

-- ---- number 0

-- no line holds: the shape is good, the length is its size, and the lines after 6 give 0
pub record Zero (n r s e len last : ℕ) : Type 0 where
  pub limits : Limits n r s e
  pub good : Good n r s
  pub sized : len ≡ bytes_of n r e
  pub later : last ≡ 0

pub call_zero : (n r s e len last : ℕ) → call_number n r s e len last ≡ 0 → Zero n r s e len last
call_zero n r s e len last = go (first_outside n r s e (rest (good_test n r s) (eqb len (bytes_of n r e))))
  where
    rest : Bool → Bool → ℕ
    rest a b = pick a (pick b last 6) 5

    inner : Limits n r s e → (a b : Bool) → good_test n r s ≡ a → eqb len (bytes_of n r e) ≡ b → rest a b ≡ 0 → Zero n r s e len last
    inner l false b p q z = absurd (omega arith)
    inner l true false p q z = absurd (omega arith)
    inner l true true p q z = record { limits = l; good = test_good n r s p; sized = eqb-true len (bytes_of n r e) q; later = z }

    go : {k : ℕ} → FirstOutside n r s e (rest (good_test n r s) (eqb len (bytes_of n r e))) k → k ≡ 0 → Zero n r s e len last
    go (strips h) z = absurd (omega arith)
    go (rows a b h) z = absurd (omega arith)
    go (shift a b c d h) z = absurd (omega arith)
    go (element a b c d f g h) z = absurd (omega arith)
    go (none l) z = inner l (good_test n r s) (eqb len (bytes_of n r e)) refl refl z
