-- Rebuild on a named stripe: n=8, r=3, s=5, e=1 with strips 0 and 4 lost, where there are three chains, one for each row, and none touches U(0)
-- or U(4). Its contract admits one outcome: answer 0, and that stripe. Assumes nothing.
-- chains a b == the survivors, with the bytes a in strip 0 and b in strip 4; the data byte of row i and strip j is 7 (8 i + j) + 1
-- whole == the sound stripe of them    lost == FF in every byte of the lost strips
use Rattle.std.specs.Prelude.{◌≡◌, refl, List, [], ◌∷◌, ◌++◌, ℕ, length, Ok}
use Rattle.code.specs.Below.{count}
use Rattle.code.specs.Xor.{◌⊕◌}
use Rattle.code.specs.Sum.{sum_to}
use Rattle.code.specs.Sound.{along, SoundStripe}
use Rattle.code.specs.SoundTest.{sound_stripe?}
use Rattle.code.specs.Shift.{diagonal, shift}
use Rattle.code.specs.Bound.{q, pr, searched}
use Rattle.shape.specs.Mask.{lost_in}
use Rattle.rebuild.specs.Rebuild.{Kept, Rebuilds}
use Rattle.rebuild.specs.RebuildNumber.{Accepted}
use Rattle.rebuild.proofs.RebuildNumberLaws.{number_accepted}
use Rattle.rebuild.proofs.RebuildMet.{rebuilds_done}
use Rattle.rebuild.proofs.RebuildDetermined.{rebuild_determined}
use Rattle.shutout.specs.Computed.{where?, kept?}
use Rattle.shape.specs.Call.{Answer}

unfoldable pub chains : List ℕ → List ℕ → List ℕ
chains a b =
    a
    ++ (0x08 ∷ 0x40 ∷ 0x78 ∷ 0xF0 ∷ 0x0F ∷ 0x47 ∷ 0x7F ∷ 0x93 ∷ 0x16 ∷ 0x4E ∷ 0x86 ∷ 0x3E ∷ [])
    ++ b
    ++ (0x24 ∷ 0x5C ∷ 0x94 ∷ 0x2C ∷ 0x2B ∷ 0x63 ∷ 0x9B ∷ 0xF7 ∷ 0x32 ∷ 0x6A ∷ 0xA2 ∷ 0xFA ∷ 0x30 ∷ 0x70 ∷ 0xD0 ∷ [])

unfoldable pub whole : List ℕ
whole = chains (0x01 ∷ 0x39 ∷ 0x71 ∷ 0xC5 ∷ []) (0x1D ∷ 0x55 ∷ 0x8D ∷ 0x29 ∷ [])

unfoldable pub lost : List ℕ
lost = chains (0xFF ∷ 0xFF ∷ 0xFF ∷ 0xFF ∷ []) (0xFF ∷ 0xFF ∷ 0xFF ∷ 0xFF ∷ [])

-- ---- the stripe is sound, and the call is accepted

whole_sound : SoundStripe (shift 8 3 5) 1 whole
unfolding whole chains sum_to along diagonal ◌⊕◌
whole_sound = (sound_stripe? 8 3 5 1 whole).gives tt

lost_accepted : Accepted 8 3 5 1 (length lost) 17
unfolding lost chains count q pr searched
lost_accepted = number_accepted 8 3 5 1 35 17 refl

lost_kept : Kept (shift 8 3 5) 1 (lost_in 17) lost whole
unfolding whole lost chains where?
lost_kept = (kept? (shift 8 3 5) 1 (lost_in 17) lost whole).gives tt

-- ---- the one outcome

pub chains_met : Rebuilds 8 3 5 1 17 lost whole (Ok tt)
chains_met = rebuilds_done 8 3 5 1 17 lost whole lost_accepted (record { kept = lost_kept; sound = whole_sound })

pub chains_outcome : (after : List ℕ) (x : Answer) → Rebuilds 8 3 5 1 17 lost after x → (x ≡ Ok tt) × (after ≡ whole)
chains_outcome after x w = rebuild_determined 8 3 5 1 17 lost after whole x (Ok tt) w chains_met
