-- SCRUB: what its counts and its finding say of a stripe. They are (0, 0) and Sound exactly when it is sound; a sound stripe in which one
-- element changed, data, H or U, is found as exactly that element; and the contract determines the answer. Assumes nothing.
-- s, t == a stripe before and after a change
use Rattle.std.specs.Prelude.{◌≡◌, refl, false, not, ◌↔◌, List, ℕ, ◌<◌, eqb, Ok, Err}
use Rattle.std.proofs.Common.{sym, ap, ◌∙◌, arith, eq-eqb, eqb-true}
use Rattle.std.proofs.lemmas.Bool.{not-false}
use Rattle.code.specs.Below.{count}
use Rattle.code.specs.BelowLaws.{none_some, some_none}
use Rattle.code.specs.CountLaws.{zero_count, count_zero}
use Rattle.code.specs.Place.{at}
use Rattle.code.specs.Layout.{Layout, Fair, X, H, U}
use Rattle.code.specs.Sound.{Sound}
use Rattle.shape.specs.Refusal.{refusal_some}
use Rattle.shape.specs.CallLaws.{named_same}
use Rattle.finding.specs.declared.Finding.TheVariants as finding
use Rattle.finding.specs.Found.{wrong_row, wrong_diagonal, found}
use Rattle.finding.proofs.FoundLaws.{found_sound, found_U, found_H, found_element, found_tallied, sound_counts}
use Rattle.finding.specs.LinesOf.{X_row, X_diagonal, H_row, H_diagonal, U_row, U_diagonal}
use Rattle.finding.proofs.ChangedAt.{one_row, no_row, one_diagonal, no_diagonal}
use Rattle.finding.specs.ChangedAt.{ChangedAt}
use Rattle.stripe.specs.Scrub.{Scrubbed, Scrubs, counted_of}
use Rattle.stripe.specs.ScrubAnswers.{counted_is}

-- ---- sound

module _ (L : Layout) (e : ℕ) (s : List ℕ) where
  -- the counts are (0, 0) exactly when the stripe is sound in every byte
  pub scrub_sound : ((count L.r (wrong_row L e s) ≡ 0) × (count L.n (wrong_diagonal L e s) ≡ 0)) ↔ ((k : ℕ) → k < e → Sound L (at s e k))
  scrub_sound = (to, from)
    where
      equal : (x y : ℕ) → not (eqb x y) ≡ false → x ≡ y
      equal x y q = eqb-true x y (not-false (eqb x y) q)

      right : {x y : ℕ} → x ≡ y → not (eqb x y) ≡ false
      right {x} {y} q = ap not (eq-eqb x y q)

      to : (count L.r (wrong_row L e s) ≡ 0) × (count L.n (wrong_diagonal L e s) ≡ 0) → (k : ℕ) → k < e → Sound L (at s e k)
      to z k lk =
          record {
            rows = λ i li. equal _ _ (some_none e _ (count_zero L.r (wrong_row L e s) z.0 i li) k lk);
            diagonals = λ d ld. equal _ _ (some_none e _ (count_zero L.n (wrong_diagonal L e s) z.1 d ld) k lk);
          }

      from : ((k : ℕ) → k < e → Sound L (at s e k)) → (count L.r (wrong_row L e s) ≡ 0) × (count L.n (wrong_diagonal L e s) ≡ 0)
      from h = (
        zero_count L.r (wrong_row L e s) (λ i li. none_some e _ (λ k lk. right ((h k lk).rows i li))),
        zero_count L.n (wrong_diagonal L e s) (λ d ld. none_some e _ (λ k lk. right ((h k lk).diagonals d ld))),
      )

  -- and then, and only then, the finding is Sound
  pub scrub_finds_sound : (found L e s ≡ finding.Sound) ↔ ((k : ℕ) → k < e → Sound L (at s e k))
  scrub_finds_sound = (λ q. scrub_sound.0 (sound_counts L _ _ _ _ q), λ h. let z = scrub_sound.1 h in sym (found_sound L _ _ _ _ z.0 z.1))

-- ---- one changed element

module _ (L : Layout) (F : Fair L) (e : ℕ) (s t : List ℕ) (sound : (k : ℕ) → k < e → Sound L (at s e k)) where
  -- of data: its row and its diagonal are wrong, and meet in it
  pub scrub_element : (i j : ℕ) → i < L.r → j < L.n → ChangedAt L e (X L i j) s t → counted_of L e t ≡ record { rows = 1; diagonals = 1; finding = finding.Element i j }
  scrub_element i j li lj c =
      let p = one_row L F e (X L i j) s t sound c i (X_row L i j li (omega arith)) in
      let q = one_diagonal L F e (X L i j) s t sound c (L.diagonal i j) (X_diagonal L F i j li lj) in
      let f = found_element L 1 i 1 (L.diagonal i j) refl refl ∙ found_tallied L e t 1 i 1 (L.diagonal i j) p q in
      cc (p.many, q.many, f, F.meets_diagonal i j li lj)

  -- an H: its row is wrong
  pub scrub_H : (i : ℕ) → i < L.r → ChangedAt L e (H L i) s t → counted_of L e t ≡ record { rows = 1; diagonals = 0; finding = finding.H i }
  scrub_H i li c =
      let p = one_row L F e (H L i) s t sound c i (H_row L i li) in
      let q = no_diagonal L F e (H L i) s t sound c (H_diagonal L F i li) in
      let f = found_H L 1 i 0 _ refl refl ∙ found_tallied L e t 1 i 0 _ p q in
      cc (p.many, q.many, f)

  -- a U: its diagonal is wrong
  pub scrub_U : (d : ℕ) → d < L.n → ChangedAt L e (U L d) s t → counted_of L e t ≡ record { rows = 0; diagonals = 1; finding = finding.U d }
  scrub_U d ld c =
      let p = no_row L F e (U L d) s t sound c (U_row L d) in
      let q = one_diagonal L F e (U L d) s t sound c d (U_diagonal L F d ld) in
      let f = found_U L 0 _ 1 d refl refl ∙ found_tallied L e t 0 _ 1 d p q in
      cc (p.many, q.many, f)

-- ---- the contract

-- it determines the answer: the number, the counts, the finding, the refusal and its pair
pub scrub_determined : (n r s e : ℕ) (b : List ℕ) (x y : Scrubbed) → Scrubs n r s e b x → Scrubs n r s e b y → x ≡ y
scrub_determined n r s e b (Ok c) (Ok d) p q = ap Ok (counted_is n r s e b c p ∙ sym (counted_is n r s e b d q))
scrub_determined n r s e b (Ok c) (Err y) p q = absurd (omega (arith, p.number, q.number, refusal_some y))
scrub_determined n r s e b (Err x) (Ok d) p q = absurd (omega (arith, p.number, q.number, refusal_some x))
scrub_determined n r s e b (Err x) (Err y) p q =
    ap Err (named_same n r s x y (p.number ∙ sym q.number) (p.named x refl) (q.named y refl))
