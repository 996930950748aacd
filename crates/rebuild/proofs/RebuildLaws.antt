-- Laws of rebuild, from its contract alone: accepted, it mends or clears; a sound stripe with lost strips comes back; 0 is given exactly when
-- some sound stripe agrees with the survivors, and 10 exactly when none does. Assumes nothing.
-- b == the buffer before    a, c == afterwards    x, y == the answers
use Rattle.std.specs.Prelude.{◌≡◌, refl, ◌↔◌, Bool, true, false, List, ℕ, ◌*◌, ◌<◌, length, Err, Ok}
use Rattle.std.proofs.Common.{sym, ap, ◌∙◌, subst, arith}
use Rattle.code.specs.Place.{strip_of, at}
use Rattle.code.specs.Layout.{Layout, Fair, height, places}
use Rattle.code.specs.Sound.{SoundStripe}
use Rattle.code.specs.Shift.{shift}
use Rattle.code.specs.Lookalikes.{sized_same, decided_stripe}
use Rattle.shape.specs.declared.refusal.Refusal.{Refusal}
use Rattle.shape.specs.declared.refusal.Refusal.TheVariants.{NoSound}
use Rattle.shape.specs.Refusal.{number_of, number_determined}
use Rattle.shape.specs.Mask.{lost_in}
use Rattle.shape.specs.Call.{answer_number, Answer}
use Rattle.shape.specs.CallLaws.{done_refused}
use Rattle.shape.specs.LimitsLaws.{limits_fair}
use Rattle.rebuild.specs.Rebuild.{last_of, Kept, Agreeable, Mended, Cleared, Rebuilds, Ended, is_mended, is_cleared}
use Rattle.rebuild.specs.RebuildNumber.{Accepted}
use Rattle.rebuild.proofs.RebuildNumberLaws.{accepted_number}
use Rattle.rebuild.specs.LostStrips.{lost_decided}

-- ---- buffers with the same survivors

module _ (L : Layout) (e : ℕ) (lost : ℕ → Bool) where
  pub kept_refl : (b : List ℕ) → Kept L e lost b b
  kept_refl b = record { size = refl; survivors = λ k lk. record { survivors = λ p lp o. refl } }

  pub kept_sym : (b c : List ℕ) → Kept L e lost b c → Kept L e lost c b
  kept_sym b c x = record { size = sym x.size; survivors = λ k lk. record { survivors = λ p lp o. sym ((x.survivors k lk).survivors p lp o) } }

  pub kept_trans : (b c d : List ℕ) → Kept L e lost b c → Kept L e lost c d → Kept L e lost b d
  kept_trans b c d x y =
      record {
        size = y.size ∙ x.size;
        survivors = λ k lk. record { survivors = λ p lp o. (x.survivors k lk).survivors p lp o ∙ (y.survivors k lk).survivors p lp o };
      }

  -- equal where they agree on the lost places too
  pub kept_same : (b c : List ℕ) → length b ≡ e * places L → Kept L e lost b c
      → ((p k : ℕ) → p < places L → k < e → lost (strip_of (height L) p) ≡ true → at b e k p ≡ at c e k p) → b ≡ c
  kept_same b c size x h = sized_same L e b c size (x.size ∙ size) (λ k lk. record { all = λ p lp. go k lk p lp (lost (strip_of (height L) p)) refl })
    where
      go : (k : ℕ) → k < e → (p : ℕ) → p < places L → (t : Bool) → lost (strip_of (height L) p) ≡ t → at b e k p ≡ at c e k p
      go k lk p lp true o = h p k lp lk o
      go k lk p lp false o = (x.survivors k lk).survivors p lp o

  -- a mended stripe is a sound one that agrees
  pub mended_agreeable : (b a : List ℕ) → Mended L e lost b a → Agreeable L e lost b
  mended_agreeable b a m = record { stripe = a; sound = m.sound; agree = m.kept.survivors }

-- ---- an accepted rebuild

module _ (n r s e mask : ℕ) (b : List ℕ) (k : Accepted n r s e (length b) mask) where
  fair : Fair (shift n r s)
  fair = limits_fair n r s _ k.limits

  pub ended : (a : List ℕ) (x : Answer) → Rebuilds n r s e mask b a x → Ended (shift n r s) e (lost_in mask) b a x
  ended a x w = go x refl (w.answer.is ∙ accepted_number n r s e (length b) mask (last_of x) k)
    where
      go : (z : Answer) → x ≡ z → answer_number x ≡ last_of x → Ended (shift n r s) e (lost_in mask) b a z
      go (Ok u) q h = is_mended (w.done q)
      go (Err y) q h = at (number_determined y NoSound (λ z. omega (arith, ten)) ten)
        where
          ten : number_of y ≡ 10
          ten = ap answer_number (sym q) ∙ h ∙ ap last_of q

          at : y ≡ NoSound → Ended (shift n r s) e (lost_in mask) b a (Err y)
          at z = subst (λ (v : Refusal). Ended (shift n r s) e (lost_in mask) b a (Err v)) (sym z) (is_cleared (w.none (q ∙ ap Err z)))

  -- at most one sound stripe has the survivors
  pub mended_same : (a c : List ℕ) → Mended (shift n r s) e (lost_in mask) b a → Mended (shift n r s) e (lost_in mask) b c → a ≡ c
  mended_same a c p q =
      decided_stripe (shift n r s) e fair (lost_in mask) (lost_decided n r s e (length b) mask k) a c p.sound q.sound
      (kept_trans (shift n r s) e (lost_in mask) a b c (kept_sym (shift n r s) e (lost_in mask) b a p.kept) q.kept).survivors

  cleared_same : (a c : List ℕ) → Cleared (shift n r s) e (lost_in mask) b a → Cleared (shift n r s) e (lost_in mask) b c → a ≡ c
  cleared_same a c p q =
      kept_same (shift n r s) e (lost_in mask) a c (p.kept.size ∙ k.sized)
      (kept_trans (shift n r s) e (lost_in mask) a b c (kept_sym (shift n r s) e (lost_in mask) b a p.kept) q.kept)
      (λ v i lv li o. p.zero v i lv li o ∙ sym (q.zero v i lv li o))

  pub ended_same : (a c : List ℕ) (x y : Answer) → Ended (shift n r s) e (lost_in mask) b a x → Ended (shift n r s) e (lost_in mask) b c y → (x ≡ y) × (a ≡ c)
  ended_same a c x y (is_mended p) (is_mended q) = (refl, mended_same a c p q)
  ended_same a c x y (is_mended p) (is_cleared q) = absurd (q.none (mended_agreeable (shift n r s) e (lost_in mask) b a p))
  ended_same a c x y (is_cleared p) (is_mended q) = absurd (p.none (mended_agreeable (shift n r s) e (lost_in mask) b c q))
  ended_same a c x y (is_cleared p) (is_cleared q) = (refl, cleared_same a c p q)

  module _ (a : List ℕ) (x : Answer) (w : Rebuilds n r s e mask b a x) where
    -- done exactly when some sound stripe agrees with the survivors
    pub rebuild_done : (x ≡ Ok tt) ↔ Agreeable (shift n r s) e (lost_in mask) b
    rebuild_done = go x (ended a x w)
      where
        go : (z : Answer) → Ended (shift n r s) e (lost_in mask) b a z → (z ≡ Ok tt) ↔ Agreeable (shift n r s) e (lost_in mask) b
        go z (is_mended m) = (λ q. mended_agreeable (shift n r s) e (lost_in mask) b a m, λ g. refl)
        go z (is_cleared c) = (λ q. done_refused NoSound (sym q), λ g. absurd (c.none g))

    -- 10 exactly when none does
    pub rebuild_exactly : (x ≡ Err NoSound) ↔ (Agreeable (shift n r s) e (lost_in mask) b → ⊥)
    rebuild_exactly = go x (ended a x w)
      where
        go : (z : Answer) → Ended (shift n r s) e (lost_in mask) b a z → (z ≡ Err NoSound) ↔ (Agreeable (shift n r s) e (lost_in mask) b → ⊥)
        go z (is_mended m) = (λ q. done_refused NoSound q, λ f. absurd (f (mended_agreeable (shift n r s) e (lost_in mask) b a m)))
        go z (is_cleared c) = (λ q. c.none, λ f. refl)

    -- a sound stripe with anything in its lost strips: the answer is 0, and the stripe is back
    pub rebuild_gives : (t : List ℕ) → SoundStripe (shift n r s) e t → Kept (shift n r s) e (lost_in mask) t b → (x ≡ Ok tt) × (a ≡ t)
    rebuild_gives t sound kept = go x (ended a x w)
      where
        back : Kept (shift n r s) e (lost_in mask) b t
        back = kept_sym (shift n r s) e (lost_in mask) t b kept

        go : (z : Answer) → Ended (shift n r s) e (lost_in mask) b a z → (z ≡ Ok tt) × (a ≡ t)
        go z (is_mended m) = (refl, mended_same a t m (record { kept = back; sound = sound }))
        go z (is_cleared c) = absurd (c.none (record { stripe = t; sound = sound; agree = back.survivors }))
