-- How rebuild meets its contract, from the opened buffer on. Assumes nothing.
use Rattle.std.specs.Prelude.{◌≡◌, Bool, true, false, List, ℕ, ◌*◌, ◌≤◌, ◌<◌, length, Err, Ok}
use Rattle.code.specs.Below.{count}
use Rattle.code.specs.Bound.{Good}
use Rattle.code.specs.Layout.{places}
use Rattle.code.specs.Shift.{shift}
use Rattle.shape.specs.declared.shapes.Shape.{Shape}
use Rattle.shape.specs.declared.refusal.Refusal.{Refusal}
use Rattle.shape.specs.declared.refusal.Refusal.TheVariants.{Mask, Many, NoSound}
use Rattle.shape.specs.Limits.{Limits}
use Rattle.shape.specs.WithinLaws.{of_shape, to_numbers}
use Rattle.shape.specs.Judge.{Judged}
use Rattle.shape.specs.Mask.{lost_in, above_test}
use Rattle.stripe.specs.Opened.{Opens}
use Rattle.rebuild.specs.Rebuild.{Rebuilds}
use Rattle.rebuild.specs.RebuildNumber.{Accepted}
use Rattle.rebuild.proofs.RebuildMet.{rebuilds_opened, rebuilds_above, rebuilds_many, rebuilds_done, rebuilds_none}
use Rattle.rebuild.specs.PlanRun.{Mends}

module _ (n r s e mask : ℕ) (b : List ℕ) (x : Judged) (o : Opens n r s e (length b) x) where
  -- lines 1 to 6
  pub rebuild_refused : (y : Refusal) → x ≡ Err y → Rebuilds n r s e mask b b (Err y)
  rebuild_refused y q = rebuilds_opened n r s e mask b y (o.refused y q)

  module _ (h : Shape) (c : ℕ) (q : x ≡ Ok (h, c)) where
    -- what holds of the shape's numbers holds of the four, and back
    from_shape : (P : ℕ → ℕ → ℕ → ℕ → Type 0) → P h.n h.r h.s h.e → P n r s e
    from_shape P p = of_shape n r s e h (o.opened h c q).shape P p

    to_shape : (P : ℕ → ℕ → ℕ → ℕ → Type 0) → P n r s e → P h.n h.r h.s h.e
    to_shape P p = to_numbers n r s e h (o.opened h c q).shape P p

    -- lines 7 and 8
    pub mask_refused : above_test mask n ≡ true → Rebuilds n r s e mask b b (Err Mask)
    mask_refused t = rebuilds_above n r s e mask b (o.opened h c q).limits (o.opened h c q).good (o.opened h c q).sized t

    pub many_refused : above_test mask n ≡ false → 2 < count 64 (lost_in mask) → Rebuilds n r s e mask b b (Err Many)
    many_refused t m = rebuilds_many n r s e mask b (o.opened h c q).limits (o.opened h c q).good (o.opened h c q).sized t m

    -- what mend asks, and what it says of the call
    module _ (t : above_test mask n ≡ false) (few : count 64 (lost_in mask) ≤ 2) where
      accepted : Accepted n r s e (length b) mask
      accepted = record { limits = (o.opened h c q).limits; good = (o.opened h c q).good; sized = (o.opened h c q).sized; strips = t; few = few }

      pub shape_good : Limits h.n h.r h.s h.e × Good h.n h.r h.s
      shape_good = (to_shape (λ n r s e. Limits n r s e) (o.opened h c q).limits, to_shape (λ n r s e. Good n r s) (o.opened h c q).good)

      pub shape_lost : (above_test mask h.n ≡ false) × (count 64 (lost_in mask) ≤ 2)
      shape_lost = (to_shape (λ n r s e. above_test mask n ≡ false) t, few)

      pub shape_size : length b ≡ h.e * places (shift h.n h.r h.s)
      shape_size = to_shape (λ n r s e. length b ≡ e * places (shift n r s)) (o.opened h c q).sized

      module _ (a : List ℕ) (y : Bool) (m : Mends (shift h.n h.r h.s) h.e (lost_in mask) b a y) where
        pub mend_done : y ≡ true → Rebuilds n r s e mask b a (Ok tt)
        mend_done z = rebuilds_done n r s e mask b a accepted ((from_shape (λ n r s e. Mends (shift n r s) e (lost_in mask) b a y) m).mended z)

        pub mend_none : y ≡ false → Rebuilds n r s e mask b a (Err NoSound)
        mend_none z = rebuilds_none n r s e mask b a accepted ((from_shape (λ n r s e. Mends (shift n r s) e (lost_in mask) b a y) m).cleared z)
