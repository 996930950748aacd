-- What rebuild answers: its contract determines the answer and every byte, old bytes of lost strips have no influence, and an empty mask
-- tells whether the stripe is sound and changes nothing. Assumes nothing.
-- b, d == buffers before    a, c == the same afterwards    x, y == the answers
use Rattle.std.specs.Prelude.{◌≡◌, refl, ◌↔◌, List, ℕ, ◌≤◌, length, Err, Ok}
use Rattle.std.proofs.Common.{sym, ap, ◌∙◌, subst, arith}
use Rattle.code.specs.SumLaws.{clash}
use Rattle.code.specs.Place.{strip_of}
use Rattle.code.specs.Layout.{height}
use Rattle.code.specs.Sound.{SoundStripe}
use Rattle.code.specs.Shift.{shift}
use Rattle.code.specs.Bound.{Good}
use Rattle.shape.specs.declared.refusal.Refusal.TheVariants.{Place, NoSound}
use Rattle.shape.specs.Refusal.{number_of}
use Rattle.shape.specs.Limits.{Limits}
use Rattle.shape.specs.Mask.{lost_in}
use Rattle.shape.specs.Call.{bytes_of, answer_number, Answered, Answer}
use Rattle.shape.specs.CallLaws.{answered_same}
use Rattle.rebuild.specs.Rebuild.{last_of, rebuild_number, Kept, Agreeable, Rebuilds, Ended, is_mended, is_cleared}
use Rattle.rebuild.specs.RebuildNumber.{Accepted, Numbered, early, late}
use Rattle.rebuild.proofs.RebuildNumberLaws.{numbered, accepted_number}
use Rattle.rebuild.specs.LostStrips.{empty_accepted, empty_lost}
use Rattle.rebuild.proofs.RebuildLaws.{kept_refl, kept_trans, kept_same, ended, ended_same, rebuild_done, rebuild_exactly}

-- ---- it leaves nothing open

-- a buffer with the same survivors ends the same way
ended_kept : (n r s e mask : ℕ) (b d c : List ℕ) (y : Answer) → Kept (shift n r s) e (lost_in mask) b d
    → Ended (shift n r s) e (lost_in mask) d c y → Ended (shift n r s) e (lost_in mask) b c y
ended_kept n r s e mask b d c y h (is_mended m) = is_mended (record { kept = kept_trans (shift n r s) e (lost_in mask) b d c h m.kept; sound = m.sound })
ended_kept n r s e mask b d c y h (is_cleared m) =
    is_cleared (record {
      kept = kept_trans (shift n r s) e (lost_in mask) b d c h m.kept;
      zero = m.zero;
      none = λ g. m.none (record {
        stripe = g.stripe;
        sound = g.sound;
        agree = λ k lk. record {
          survivors = λ p lp o. sym ((h.survivors k lk).survivors p lp o) ∙ (g.agree k lk).survivors p lp o;
        };
      });
    })

module _ (n r s e mask : ℕ) (b d a c : List ℕ) (x y : Answer) (kept : Kept (shift n r s) e (lost_in mask) b d)
    (p : Rebuilds n r s e mask b a x) (q : Rebuilds n r s e mask d c y) where
  -- accepted: the same answer and the same bytes
  late_same : Accepted n r s e (length b) mask → (x ≡ y) × (a ≡ c)
  late_same k =
      ended_same n r s e mask b k a c x y (ended n r s e mask b k a x p)
      (ended_kept n r s e mask b d c y kept (ended n r s e mask d (subst (λ (m : ℕ). Accepted n r s e m mask) (sym kept.size) k) c y q))

  -- the bytes that stood in lost strips have no influence: on the answer ever, and on the bytes where the call is not refused by 1 to 8
  pub old_bytes : (x ≡ y) × (Accepted n r s e (length b) mask → a ≡ c)
  old_bytes = (go (numbered n r s e (length b) mask), λ k. (late_same k).1)
    where
      go : Numbered n r s e (length b) mask → x ≡ y
      go (late k) = (late_same k).0
      go (early z low high h) =
          answered_same n r s z x y (subst (λ (m : ℕ). Answered n r s m x) (h (last_of x)) p.answer)
          (subst (λ (m : ℕ). Answered n r s m y)
          (ap (λ (m : ℕ). rebuild_number n r s e m mask (last_of y)) kept.size ∙ h (last_of y)) q.answer)

-- a refusal of 1 to 8 changes no byte
early_kept : (n r s e mask : ℕ) (b a : List ℕ) (x : Answer) → Rebuilds n r s e mask b a x
    → (z : ℕ) → 1 ≤ z → z ≤ 8 → ((last : ℕ) → rebuild_number n r s e (length b) mask last ≡ z) → a ≡ b
early_kept n r s e mask b a x w z low high h = go x refl
  where
    is : answer_number x ≡ z
    is = w.answer.is ∙ h (last_of x)

    go : (v : Answer) → x ≡ v → a ≡ b
    go (Ok u) q = absurd (omega (arith, sym (ap answer_number q) ∙ is))
    go (Err y) q = w.refused y q (λ v. omega (arith, sym (ap number_of v) ∙ sym (ap answer_number q) ∙ is))

pub rebuild_determined : (n r s e mask : ℕ) (b a c : List ℕ) (x y : Answer) → Rebuilds n r s e mask b a x → Rebuilds n r s e mask b c y → (x ≡ y) × (a ≡ c)
rebuild_determined n r s e mask b a c x y p q = go (numbered n r s e (length b) mask)
  where
    both : (x ≡ y) × (Accepted n r s e (length b) mask → a ≡ c)
    both = old_bytes n r s e mask b b a c x y (kept_refl (shift n r s) e (lost_in mask) b) p q

    go : Numbered n r s e (length b) mask → (x ≡ y) × (a ≡ c)
    go (late k) = (both.0, both.1 k)
    go (early z low high h) = (both.0, early_kept n r s e mask b a x p z low high h ∙ sym (early_kept n r s e mask b c y q z low high h))

-- 9 is never given: the call asks for no place
pub rebuild_never_nine : (n r s e mask : ℕ) (b a : List ℕ) → Rebuilds n r s e mask b a (Err Place) → ⊥
rebuild_never_nine n r s e mask b a w = go w.answer.is (numbered n r s e (length b) mask)
  where
    go : 9 ≡ rebuild_number n r s e (length b) mask 10 → Numbered n r s e (length b) mask → ⊥
    go q (early z low high h) = omega (arith, q ∙ h 10)
    go q (late k) = omega (arith, q ∙ accepted_number n r s e (length b) mask 10 k)

-- ---- the empty mask

-- nothing changes; 0 on a sound stripe, 10 on another
pub rebuild_empty : (n r s e : ℕ) (b a : List ℕ) (x : Answer) → Limits n r s e → Good n r s → length b ≡ bytes_of n r e → Rebuilds n r s e 0 b a x
    → (a ≡ b) × ((x ≡ Ok tt) ↔ SoundStripe (shift n r s) e b) × ((x ≡ Err NoSound) ↔ (SoundStripe (shift n r s) e b → ⊥))
rebuild_empty n r s e b a x l g q w = (
  changed x (ended n r s e 0 b k a x w),
  (λ z. sound ((rebuild_done n r s e 0 b k a x w).0 z), λ h. (rebuild_done n r s e 0 b k a x w).1 (agree h)),
  (λ z h. (rebuild_exactly n r s e 0 b k a x w).0 z (agree h), λ f. (rebuild_exactly n r s e 0 b k a x w).1 (λ h. f (sound h))),
)
  where
    k : Accepted n r s e (length b) 0
    k = empty_accepted n r s e (length b) l g q

    all : (c : List ℕ) → Kept (shift n r s) e (lost_in 0) b c → c ≡ b
    all c h = sym (kept_same (shift n r s) e (lost_in 0) b c q h (λ p i lp li o. clash (sym (empty_lost (strip_of (height (shift n r s)) p)) ∙ o)))

    changed : (z : Answer) → Ended (shift n r s) e (lost_in 0) b a z → a ≡ b
    changed z (is_mended m) = all a m.kept
    changed z (is_cleared m) = all a m.kept

    sound : Agreeable (shift n r s) e (lost_in 0) b → SoundStripe (shift n r s) e b
    sound h = subst (SoundStripe (shift n r s) e) (all h.stripe (record { size = h.sound.stripe.size ∙ sym q; survivors = h.agree })) h.sound

    agree : SoundStripe (shift n r s) e b → Agreeable (shift n r s) e (lost_in 0) b
    agree h = record { stripe = b; sound = h; agree = (kept_refl (shift n r s) e (lost_in 0) b).survivors }
