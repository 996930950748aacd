-- How the calls meet their contracts, from the opened buffer on. Assumes nothing.
use Rattle.std.specs.Prelude.{◌≡◌, true, false, List, [], ℕ, ◌+◌, ◌*◌, ◌≤◌, ◌<◌, length, take, drop, Err, Ok}
use Rattle.std.proofs.Common.{◌∙◌}
use Rattle.code.specs.Layout.{X}
use Rattle.code.specs.Shift.{shift}
use Rattle.shape.specs.declared.shapes.Shape.{Shape}
use Rattle.shape.specs.declared.refusal.Refusal.{Refusal}
use Rattle.shape.specs.declared.refusal.Refusal.TheVariants.{Place}
use Rattle.shape.specs.WithinLaws.{of_shape, to_numbers}
use Rattle.shape.specs.Call.{bytes_of, Answered}
use Rattle.shape.specs.Judge.{Judged}
use Rattle.patch.specs.Written.{written_over}
use Rattle.finding.specs.declared.Counts.{Counts}
use Rattle.finding.specs.Found.{Finds}
use Rattle.stripe.specs.Opened.{Opens}
use Rattle.stripe.specs.Encode.{EncodedFrom, Encodes}
use Rattle.stripe.specs.EncodeDetermined.{encodes_refused, encodes_done}
use Rattle.stripe.specs.Write.{place_outside, write_number, Writes}
use Rattle.stripe.specs.WriteNumber.{inside_place, answered_outside, answered_done}
use Rattle.stripe.specs.WriteCall.{writes_refused, writes_done}
use Rattle.stripe.specs.Read.{read_number, read_part}
use Rattle.stripe.specs.ReadLaws.{reads_refused, reads_done}
use Rattle.stripe.specs.Scrub.{Scrubs}
use Rattle.stripe.specs.ScrubAnswers.{scrubs_refused, scrubs_counted}

module _ (n r s e : ℕ) (b : List ℕ) (x : Judged) (o : Opens n r s e (length b) x) where
  -- ---- the shape or the length is refused

  module _ (y : Refusal) (q : x ≡ Err y) where
    pub encode_refused : Encodes n r s e b b (Err y)
    encode_refused = encodes_refused n r s e b y (o.refused y q 0)

    pub write_refused : (i j k : ℕ) (run : List ℕ) → Writes n r s e i j k run b b (Err y)
    write_refused i j k run = writes_refused n r s e i j k run b y (o.refused y q _)

    pub check_refused : (i j : ℕ) → Answered n r s (read_number n r s e (length b) i j) (Err y)
    check_refused i j = o.refused y q _

    pub read_none : (i j : ℕ) → [] ≡ read_part n r s e i j b
    read_none i j = reads_refused n r s e i j b y (o.refused y q _)

    pub scrub_refused : Scrubs n r s e b (Err y)
    scrub_refused = scrubs_refused n r s e b y (o.refused y q 0)

  -- ---- the shape is good

  module _ (h : Shape) (c : ℕ) (q : x ≡ Ok (h, c)) where
    -- what holds of the shape's numbers holds of the four, and back
    from_shape : (P : ℕ → ℕ → ℕ → ℕ → Type 0) → P h.n h.r h.s h.e → P n r s e
    from_shape P p = of_shape n r s e h (o.opened h c q).shape P p

    to_shape : (P : ℕ → ℕ → ℕ → ℕ → Type 0) → P n r s e → P h.n h.r h.s h.e
    to_shape P p = to_numbers n r s e h (o.opened h c q).shape P p

    pub shape_size : length b ≡ bytes_of h.n h.r h.e
    shape_size = to_shape (λ n r s e. length b ≡ bytes_of n r e) (o.opened h c q).sized

    pub encode_done : (a : List ℕ) → EncodedFrom (shift h.n h.r h.s) h.e b a → Encodes n r s e b a (Ok tt)
    encode_done a p =
        encodes_done n r s e b (o.opened h c q).limits (o.opened h c q).good a (o.opened h c q).sized (from_shape (λ n r s e. EncodedFrom (shift n r s) e b a) p)

    module _ (i j k len : ℕ) where
      pub outside_answered : place_outside h.n h.r h.e i j k len ≡ true → Answered n r s (write_number n r s e (length b) i j k len) (Err Place)
      outside_answered t =
          answered_outside n r s e (length b) i j k len (o.opened h c q).limits (o.opened h c q).good (o.opened h c q).sized
          (from_shape (λ n r s e. place_outside n r e i j k len ≡ true) t)

      pub inside_answered : place_outside h.n h.r h.e i j k len ≡ false → Answered n r s (write_number n r s e (length b) i j k len) (Ok tt)
      inside_answered t =
          answered_done n r s e (length b) i j k len (o.opened h c q).limits (o.opened h c q).good (o.opened h c q).sized
          (from_shape (λ n r s e. place_outside n r e i j k len ≡ false) t)

      pub inside_shape : place_outside h.n h.r h.e i j k len ≡ false → (i < h.r) × (j < h.n) × (k + len ≤ h.e)
      inside_shape t = inside_place h.n h.r h.e i j k len t

    pub write_outside : (i j k : ℕ) (run : List ℕ) → place_outside h.n h.r h.e i j k (length run) ≡ true → Writes n r s e i j k run b b (Err Place)
    write_outside i j k run t = writes_refused n r s e i j k run b Place (outside_answered i j k (length run) t)

    pub write_done : (i j k : ℕ) (run a : List ℕ) → place_outside h.n h.r h.e i j k (length run) ≡ false
        → a ≡ written_over (shift h.n h.r h.s) h.e i j k run b → Writes n r s e i j k run b a (Ok tt)
    write_done i j k run a t p =
        writes_done n r s e i j k run b a (inside_answered i j k (length run) t) (from_shape (λ n r s e. a ≡ written_over (shift n r s) e i j k run b) p)

    pub read_outside : (i j : ℕ) → place_outside h.n h.r h.e i j 0 0 ≡ true → [] ≡ read_part n r s e i j b
    read_outside i j t = reads_refused n r s e i j b Place (outside_answered i j 0 0 t)

    pub read_inside : (i j : ℕ) (p : List ℕ) → place_outside h.n h.r h.e i j 0 0 ≡ false
        → p ≡ take h.e (drop (X (shift h.n h.r h.s) i j * h.e) b) → p ≡ read_part n r s e i j b
    read_inside i j p t w =
        from_shape (λ n r s e. p ≡ take e (drop (X (shift n r s) i j * e) b)) w ∙ reads_done n r s e i j b (inside_answered i j 0 0 t)

    pub scrub_counted : (d : Counts) → Finds (shift h.n h.r h.s) h.e b d → Scrubs n r s e b (Ok d)
    scrub_counted d w =
        scrubs_counted n r s e b (o.opened h c q).limits (o.opened h c q).good d (o.opened h c q).sized
        (from_shape (λ n r s e. Finds (shift n r s) e b d) w)
