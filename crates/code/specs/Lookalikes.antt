-- Whole stripes of e-byte elements: a pair fails exactly when two different sound stripes agree outside it. The mathematics is of one byte of
-- every element; this is the step to all of them. Assumes nothing.
-- s, t == stripes; at s e k == byte k of each of its elements
use Rattle.std.specs.Prelude.{ℕ, zero, suc, ◌+◌, ◌*◌, ◌/◌, ◌%◌, ◌<◌, ◌≡◌, ◌≢◌, List, Bool, get_or}
use Rattle.std.proofs.Common.{sym, ◌∙◌, subst, zero-mul, mod-lt, mul_comm, div-add-mod', div-lt_iff_lt-mul, arith, ext_get_or}
use Rattle.std.proofs.Math.Path.{ap}
use Rattle.std.proofs.Math.Arith.{digits_div}
use Rattle.std.proofs.Math.ListN.{length}
use Rattle.code.specs.Sum.{table}
use Rattle.code.specs.SumLaws.{length_table, get_or_table}
use Rattle.code.specs.Code.{Balanced, Agree, Same, Bytes, Fails, Decided}
use Rattle.code.specs.Unused.{same_balanced}
use Rattle.code.specs.Place.{strip_of, at, inside}
use Rattle.code.specs.Layout.{Layout, Fair, height, places, code, pair}
use Rattle.code.specs.LayoutLaws.{layout_within, pair_kept, pair_no}
use Rattle.code.specs.Sound.{Stripe, SoundStripe}
use Rattle.code.specs.SoundLaws.{sound_balanced, balanced_sound}

-- two different sound stripes that agree outside the strips a and b
pub record Lookalikes (L : Layout) (e a b : ℕ) : Type 0 where
  pub one : List ℕ
  pub other : List ℕ
  pub one_sound : SoundStripe L e one
  pub other_sound : SoundStripe L e other
  pub agree : (p k : ℕ) → p < places L → k < e → strip_of (height L) p ≢ a → strip_of (height L) p ≢ b → at one e k p ≡ at other e k p
  pub differ : one ≡ other → ⊥

-- ---- stripes byte by byte

-- an element has a byte where the stripe has one
some_byte : (e m x : ℕ) → x < e * m → 0 < e
some_byte zero m x l = absurd (omega (arith, zero-mul m))
some_byte (suc e) m x l = omega arith

-- byte x of a stripe of m places is a byte of place x / e
byte_place : (e m x : ℕ) → x < e * m → x / e < m
byte_place e m x l = (div-lt_iff_lt-mul (some_byte e m x l)).1 (omega (arith, mul_comm e m))

module _ (L : Layout) (e : ℕ) where
  -- lists of a stripe's length are equal where all their places are, in every byte
  pub sized_same : (s t : List ℕ) → length s ≡ e * places L → length t ≡ e * places L → ((k : ℕ) → k < e → Same (code L) (at s e k) (at t e k)) → s ≡ t
  sized_same s t a b h = ext_get_or 0 s t (a ∙ sym b) (λ x lx. go x (omega (arith, a)))
    where
      go : (x : ℕ) → x < e * places L → get_or s x 0 ≡ get_or t x 0
      go x lx =
          subst (λ (z : ℕ). get_or s z 0 ≡ get_or t z 0) (div-add-mod' x e)
          ((h (x % e) (mod-lt x (some_byte e (places L) x lx))).all (x / e) (byte_place e (places L) x lx))

  -- so stripes are
  pub stripe_same : (s t : List ℕ) → Stripe L e s → Stripe L e t → ((k : ℕ) → k < e → Same (code L) (at s e k) (at t e k)) → s ≡ t
  stripe_same s t a b h = sized_same s t a.size b.size h

  -- a lost set that is decided byte by byte is decided for whole stripes
  pub decided_stripe : Fair L → (lost : ℕ → Bool) → Decided (code L) lost → (s t : List ℕ) → SoundStripe L e s → SoundStripe L e t
      → ((k : ℕ) → k < e → Agree (code L) lost (at s e k) (at t e k)) → s ≡ t
  decided_stripe F lost d s t a b agree =
      stripe_same s t a.stripe b.stripe
      (λ k lk. d.same (at s e k) (at t e k) (sound_balanced L F (at s e k) (a.each k lk)) (sound_balanced L F (at t e k) (b.each k lk)) (agree k lk))

  -- ---- from one byte to all

  -- the stripe with f p in every byte of place p
  spread : (ℕ → ℕ) → List ℕ
  spread f = table (e * places L) (λ x. f (x / e))

  spread_at : (f : ℕ → ℕ) (k : ℕ) → k < e → Same (code L) (at (spread f) e k) f
  unfolding spread
  spread_at f k lk =
      record {
        all = λ p lp.
            get_or_table (e * places L) (λ x. f (x / e)) 0 (p * e + k) (omega (arith, inside e p (places L) lp))
            ∙ ap f (digits_div p lk);
      }

  spread_sound : Fair L → (f : ℕ → ℕ) → Bytes (code L) f → Balanced (code L) f → SoundStripe L e (spread f)
  unfolding spread
  spread_sound F f small sound =
      record {
        stripe = record { size = size; bytes = λ x lx. byte x (omega (arith, size)) };
        each = λ k lk. balanced_sound L F (at (spread f) e k) (same_balanced (code L) (layout_within L F) (at (spread f) e k) f (spread_at f k lk) sound);
      }
    where
      size : length (spread f) ≡ e * places L
      size = length_table (e * places L) (λ x. f (x / e))

      byte : (x : ℕ) → x < e * places L → get_or (spread f) x 0 < 256
      byte x lx = subst (λ (v : ℕ). v < 256) (sym (get_or_table (e * places L) (λ z. f (z / e)) 0 x lx)) (small.small (x / e) (byte_place e (places L) x lx))

module _ (L : Layout) (F : Fair L) (e a b : ℕ) where
  -- a pair that fails has lookalikes
  pub lookalikes_of_fails : 0 < e → Fails (code L) (pair a b) → Lookalikes L e a b
  lookalikes_of_fails pe x =
      record {
        one = spread L e x.one;
        other = spread L e x.other;
        one_sound = spread_sound L e F x.one x.one_bytes x.one_sound;
        other_sound = spread_sound L e F x.other x.other_bytes x.other_sound;
        agree = λ p k lp lk na nb.
            (spread_at L e x.one k lk).all p lp
            ∙ x.agree.survivors p lp (pair_no a b (strip_of (height L) p) na nb)
            ∙ sym ((spread_at L e x.other k lk).all p lp);
        differ = λ q.
            x.differ (record {
              all = λ p lp. sym ((spread_at L e x.one 0 pe).all p lp) ∙ ap (λ (s : List ℕ). at s e 0 p) q ∙ (spread_at L e x.other 0 pe).all p lp;
            });
      }

  -- a pair that is decided has none
  pub no_lookalikes_of_decided : Decided (code L) (pair a b) → Lookalikes L e a b → ⊥
  no_lookalikes_of_decided d x =
      x.differ (decided_stripe L e F (pair a b) d x.one x.other x.one_sound x.other_sound
      (λ k lk. record {
        survivors = λ p lp q. x.agree p k lp lk (pair_kept a b (strip_of (height L) p) q).0 (pair_kept a b (strip_of (height L) p) q).1;
      }))
