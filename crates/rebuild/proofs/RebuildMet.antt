-- How rebuild's contract is met: refused by lines 1 to 6, by 7, by 8, done, and 10. Assumes nothing.
use Rattle.std.specs.Prelude.{◌≡◌, refl, ◌≢◌, Bool, true, false, List, ℕ, ◌<◌, ltb, length, Err, Ok}
use Rattle.std.proofs.Common.{sym, ap, ◌∙◌, subst, arith, lt-ltb}
use Rattle.code.specs.Sum.{pick}
use Rattle.code.specs.Below.{count}
use Rattle.code.specs.Shift.{shift}
use Rattle.code.specs.Bound.{Good}
use Rattle.shape.specs.declared.refusal.Refusal.{Refusal}
use Rattle.shape.specs.declared.refusal.Refusal.TheVariants.{Mask, Many, NoSound}
use Rattle.shape.specs.Refusal.{number_of}
use Rattle.shape.specs.Limits.{Limits}
use Rattle.shape.specs.Mask.{lost_in, above_test}
use Rattle.shape.specs.Call.{bytes_of, call_number, Answer, Answered}
use Rattle.shape.specs.CallLaws.{done_refused}
use Rattle.shape.specs.JudgedCall.{unnamed, last_number}
use Rattle.rebuild.specs.Rebuild.{rebuild_number, Mended, Cleared, Rebuilds}
use Rattle.rebuild.specs.RebuildNumber.{Accepted, Numbered, early, late}
use Rattle.rebuild.proofs.RebuildNumberLaws.{numbered, accepted_number}

-- a refusal of this number has no pair to name
plain : (n r s number : ℕ) (y : Refusal) → number_of y ≡ number → number ≢ 5 → Answered n r s number (Err y)
plain n r s number y q ne = record { is = q; named = λ z v. unnamed n r s z (λ k. ne (sym q ∙ ap number_of (it z v) ∙ k)) }
  where
    it : (z : Refusal) → ◌≡◌ {A = Answer} (Err y) (Err z) → y ≡ z
    it z v = cc

module _ (n r s e mask : ℕ) (b : List ℕ) where
  -- refused whatever comes last: no byte changed
  pub rebuilds_refused : (y : Refusal) → ((last : ℕ) → Answered n r s (rebuild_number n r s e (length b) mask last) (Err y))
      → Rebuilds n r s e mask b b (Err y)
  rebuilds_refused y h =
      record {
        answer = h 10;
        done = λ q. done_refused y (sym q);
        none = λ q. absurd (other (it q) (numbered n r s e (length b) mask));
        refused = λ z q ne. refl;
      }
    where
      it : ◌≡◌ {A = Answer} (Err y) (Err NoSound) → y ≡ NoSound
      it q = cc

      other : y ≡ NoSound → Numbered n r s e (length b) mask → ⊥
      other q (early z low high f) = omega (arith, sym (ap number_of q) ∙ (h 0).is ∙ f 0)
      other q (late k) = omega (arith, sym (ap number_of q) ∙ (h 0).is ∙ accepted_number n r s e (length b) mask 0 k)

  -- lines 1 to 6
  pub rebuilds_opened : (y : Refusal) → ((last : ℕ) → Answered n r s (call_number n r s e (length b) last) (Err y)) → Rebuilds n r s e mask b b (Err y)
  rebuilds_opened y h = rebuilds_refused y (λ last. h (pick (above_test mask n) 7 (pick (ltb 2 (count 64 (lost_in mask))) 8 last)))

  module _ (l : Limits n r s e) (g : Good n r s) (q : length b ≡ bytes_of n r e) where
    reached : (last : ℕ) → rebuild_number n r s e (length b) mask last ≡ pick (above_test mask n) 7 (pick (ltb 2 (count 64 (lost_in mask))) 8 last)
    reached last = last_number n r s e l g (length b) (pick (above_test mask n) 7 (pick (ltb 2 (count 64 (lost_in mask))) 8 last)) q

    -- line 7
    pub rebuilds_above : above_test mask n ≡ true → Rebuilds n r s e mask b b (Err Mask)
    rebuilds_above t =
        rebuilds_refused Mask
        (λ last. subst (λ (m : ℕ). Answered n r s m (Err Mask))
        (sym (reached last ∙ ap (λ (u : Bool). pick u 7 (pick (ltb 2 (count 64 (lost_in mask))) 8 last)) t)) (plain n r s 7 Mask refl (omega arith)))

    -- line 8
    pub rebuilds_many : above_test mask n ≡ false → 2 < count 64 (lost_in mask) → Rebuilds n r s e mask b b (Err Many)
    rebuilds_many t m =
        rebuilds_refused Many
        (λ last. subst (λ (v : ℕ). Answered n r s v (Err Many))
        (sym (reached last ∙ ap (λ (u : Bool). pick u 7 (pick (ltb 2 (count 64 (lost_in mask))) 8 last)) t
        ∙ ap (λ (u : Bool). pick u 8 last) (lt-ltb 2 (count 64 (lost_in mask)) m))) (plain n r s 8 Many refl (omega arith)))

  module _ (a : List ℕ) (k : Accepted n r s e (length b) mask) where
    -- 0
    pub rebuilds_done : Mended (shift n r s) e (lost_in mask) b a → Rebuilds n r s e mask b a (Ok tt)
    rebuilds_done m =
        record {
          answer = record { is = sym (accepted_number n r s e (length b) mask 0 k); named = λ z v. done_refused z v };
          done = λ z. m;
          none = λ z. done_refused NoSound z;
          refused = λ y z. done_refused y z;
        }

    -- 10
    pub rebuilds_none : Cleared (shift n r s) e (lost_in mask) b a → Rebuilds n r s e mask b a (Err NoSound)
    rebuilds_none c =
        record {
          answer = subst (λ (m : ℕ). Answered n r s m (Err NoSound)) (sym (accepted_number n r s e (length b) mask 10 k))
              (plain n r s 10 NoSound refl (omega arith));
          done = λ z. done_refused NoSound (sym z);
          none = λ z. c;
          refused = λ y z ne. absurd (ne (it y z));
        }
      where
        it : (y : Refusal) → ◌≡◌ {A = Answer} (Err NoSound) (Err y) → y ≡ NoSound
        it y z = cc
