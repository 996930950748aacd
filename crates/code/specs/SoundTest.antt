-- A test that is computed: whether a stripe that is named byte by byte is sound. Assumes nothing.
-- Test P == a test, and a proof of P where it passes (Test)
use Rattle.std.specs.Prelude.{ℕ, ◌*◌, List, length, get_or}
use Rattle.code.specs.Sum.{sum_to}
use Rattle.code.specs.Test.{Test, equal?, less?, so?, both?, below?}
use Rattle.code.specs.Place.{at}
use Rattle.code.specs.Layout.{X, H, U, places}
use Rattle.code.specs.Sound.{along, Sound, SoundStripe}
use Rattle.code.specs.Shift.{shift}

-- every H and U of one byte
abbrev sound? : (n r s : ℕ) (f : ℕ → ℕ) → Test (Sound (shift n r s) f)
sound? n r s f =
    so? (both? (below? r (λ i. equal? (f (H (shift n r s) i)) (sum_to n (λ j. f (X (shift n r s) i j)))))
    (below? n (λ d. equal? (f (U (shift n r s) d)) (along (shift n r s) (λ i j. f (X (shift n r s) i j)) d))))
    (λ h. record { rows = h.0; diagonals = h.1 })

-- and of every byte, each below 256
abbrev pub sound_stripe? : (n r s e : ℕ) (bs : List ℕ) → Test (SoundStripe (shift n r s) e bs)
sound_stripe? n r s e bs =
    so? (both? (equal? (length bs) (e * places (shift n r s))) (both? (below? (length bs) (λ x. less? (get_or bs x 0) 256)) (below? e (λ k. sound? n r s (at bs e k)))))
    (λ h. record { stripe = record { size = h.0; bytes = h.1.0 }; each = h.1.1 })
