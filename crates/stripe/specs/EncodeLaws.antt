-- Laws of encode: parity after parity, line after line; and its contract leaves no byte open. Assumes nothing.
use Rattle.std.specs.Prelude.{◌≡◌, refl, List, ℕ, ◌+◌, ◌-◌, ◌*◌, ◌≤◌, ◌<◌, length}
use Rattle.std.proofs.Common.{sym, ◌∙◌, not-suc-le-zero, arith, below_more}
use Rattle.std.proofs.Math.Path.{ap}
use Rattle.std.proofs.Math.ListN.{get_or}
use Rattle.code.specs.Sum.{sum}
use Rattle.code.specs.SumLaws.{sum_ext, sum_to_ext}
use Rattle.code.specs.Place.{at}
use Rattle.code.specs.Layout.{Layout, Fair, X, H, U, places, line}
use Rattle.code.specs.LayoutLaws.{by_places}
use Rattle.code.specs.SoundLaws.{balanced_sound}
use Rattle.code.specs.AlongLaws.{along_ext}
use Rattle.code.specs.Lookalikes.{sized_same}
use Rattle.lines.specs.Others.{Builds}
use Rattle.stripe.specs.Parity.{parity}
use Rattle.stripe.specs.ParityLaws.{data_parity, other_line}
use Rattle.stripe.specs.Encode.{EncodedFrom}

-- ---- line after line

-- after has the data of before, and the lines below t sum to zero in every byte
pub record EncodedTo (L : Layout) (e : ℕ) (before : List ℕ) (t : ℕ) (after : List ℕ) : Type 0 where
  pub size : length after ≡ length before
  pub elements : (i j k : ℕ) → i < L.r → j < L.n → k < e → at after e k (X L i j) ≡ at before e k (X L i j)
  pub lines : (u : ℕ) → u < t → (k : ℕ) → k < e → sum (at after e k) (line L u) ≡ 0

pub encoded_none : (L : Layout) (e : ℕ) (s : List ℕ) → EncodedTo L e s 0 s
encoded_none L e s = record { size = refl; elements = λ i j k li lj lk. refl; lines = λ u l. absurd (not-suc-le-zero l) }

module _ (L : Layout) (F : Fair L) (e : ℕ) (before : List ℕ) (t : ℕ) (s : List ℕ) (p : EncodedTo L e before t s) where
  -- the parity of line t, which stands last on it, stands on no line below it
  pub encoded_more : (v : ℕ) (u : List ℕ) → t < L.r + L.n → v ≡ length (line L t) - 1 → Builds L e t v s u → EncodedTo L e before (t + 1) u
  unfolding parity
  encoded_more v u lt last q =
      record {
        size = q.size ∙ p.size;
        elements = λ i j k li lj lk. (q.each k lk).others (X L i j) (λ z. data_parity L i j li lj t lt (z ∙ is_parity)) ∙ p.elements i j k li lj lk;
        lines = below_more (λ (w : ℕ). (k : ℕ) → k < e → sum (at u e k) (line L w) ≡ 0) t
            (λ w lw k lk.
            sum_ext (at u e k) (at s e k) (line L w)
            (λ x lx. (q.each k lk).others (get_or (line L w) x 0) (λ z. other_line L F t w x lt (omega arith) (λ y. omega arith) lx (z ∙ is_parity)))
            ∙ p.lines w lw k lk)
            (λ k lk. (q.each k lk).balanced);
      }
    where
      is_parity : get_or (line L t) v 0 ≡ parity L t
      is_parity = ap (λ (x : ℕ). get_or (line L t) x 0) last

  -- all lines sum to zero: the stripe is sound
  pub encoded_all : L.r + L.n ≤ t → EncodedFrom L e before s
  encoded_all h =
      record {
        size = p.size;
        elements = p.elements;
        sound = λ k lk. balanced_sound L F (at s e k) (record { zero = λ u lu. p.lines u (omega arith) k lk });
      }

-- ---- no byte is left open

-- the data determines every H and U, so every byte
pub encoded_same : (L : Layout) → Fair L → (e : ℕ) (before x y : List ℕ) → length before ≡ e * places L → EncodedFrom L e before x → EncodedFrom L e before y
    → x ≡ y
encoded_same L F e before x y size p q =
    sized_same L e x y (p.size ∙ size) (q.size ∙ size) (λ k lk. record { all = by_places L F (λ c. at x e k c ≡ at y e k c) (elements k lk) (rows k lk) (diagonals k lk) })
  where
    elements : (k : ℕ) → k < e → (i j : ℕ) → i < L.r → j < L.n → at x e k (X L i j) ≡ at y e k (X L i j)
    elements k lk i j li lj = p.elements i j k li lj lk ∙ sym (q.elements i j k li lj lk)

    rows : (k : ℕ) → k < e → (i : ℕ) → i < L.r → at x e k (H L i) ≡ at y e k (H L i)
    rows k lk i li =
        (p.sound k lk).rows i li
        ∙ sum_to_ext L.n (λ j. at x e k (X L i j)) (λ j. at y e k (X L i j)) (λ j lj. elements k lk i j li lj)
        ∙ sym ((q.sound k lk).rows i li)

    diagonals : (k : ℕ) → k < e → (d : ℕ) → d < L.n → at x e k (U L d) ≡ at y e k (U L d)
    diagonals k lk d ld =
        (p.sound k lk).diagonals d ld
        ∙ along_ext L (λ i j. at x e k (X L i j)) (λ i j. at y e k (X L i j)) d (elements k lk)
        ∙ sym ((q.sound k lk).diagonals d ld)
