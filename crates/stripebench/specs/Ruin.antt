-- RUIN: every byte of the lost strips becomes FF; the survivors stay. Assumes nothing.
use Rattle.std.specs.Prelude.{◌≡◌, Bool, true, List, ℕ, ◌<◌}
use Rattle.code.specs.Place.{at, strip_of}
use Rattle.code.specs.Layout.{Layout, height, places}
use Rattle.rebuild.specs.Rebuild.{Kept}

pub record Ruins (L : Layout) (e : ℕ) (lost : ℕ → Bool) (before after : List ℕ) : Type 0 where
  pub kept : Kept L e lost before after
  pub ruined : (p k : ℕ) → p < places L → k < e → lost (strip_of (height L) p) ≡ true → at after e k p ≡ 255
