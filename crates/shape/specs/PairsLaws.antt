-- From the map to the shape that it was filled from: the pair judge's answer is judge's. Assumes nothing.
use Rattle.std.specs.Prelude.{ℕ, ◌+◌, ◌*◌, ◌≤◌, ◌≡◌, List, Option, Some, None, Ok, Err}
use Rattle.std.proofs.Common.{subst, arith}
use Rattle.code.specs.Alike.{fails_alike, decided_alike}
use Rattle.code.specs.Drawn.{drawn, Draws}
use Rattle.code.specs.DrawnLaws.{drawn_latin, drawn_alike}
use Rattle.code.specs.Layout.{Layout, Fair, Latin, code, pair}
use Rattle.code.specs.Shift.{shift}
use Rattle.code.proofs.ShiftLaws.{shift_latin}
use Rattle.shape.specs.declared.shapes.Shape.{Shape}
use Rattle.shape.specs.declared.refusal.Refusal.TheVariants.{Weak}
use Rattle.shape.specs.Limits.{Limits}
use Rattle.shape.specs.Shape.{ShapeOf}
use Rattle.shape.specs.Map.{Filled, Homes}
use Rattle.shape.specs.MapLaws.{filled_draws}
use Rattle.shape.specs.Pairs.{FirstOf}
use Rattle.shape.specs.Judge.{Judges}
use Rattle.shape.specs.JudgeLaws.{judges_weak, judges_good, no_pair_good}
use Rattle.shape.specs.LimitsLaws.{limits_fair}

module _ (m : List (List ℕ)) (h : List ℕ) (L : Layout) (F : Fair L) (x : Draws m h L) where
  first_drawn : (f : Option (ℕ × ℕ)) → FirstOf (drawn m h L.n L.r) f → FirstOf L f
  first_drawn (Some (a, b)) y =
      record {
        order = y.order;
        within = y.within;
        fails = fails_alike (code (drawn m h L.n L.r)) (code L) (drawn_alike m h L F x) (pair a b) y.fails;
        before = λ c d lc ld w. decided_alike (code (drawn m h L.n L.r)) (code L) (drawn_alike m h L F x) (pair c d) (y.before c d lc ld w);
      }
  first_drawn None y =
      record { decided = λ c d lc ld. decided_alike (code (drawn m h L.n L.r)) (code L) (drawn_alike m h L F x) (pair c d) (y.decided c d lc ld) }

module _ (g : List (List ℕ)) (h : List ℕ) (n r s e : ℕ) (l : Limits n r s e) where
  fair : Fair (shift n r s)
  fair = limits_fair n r s _ l

  -- a filled map with no more rows than strips is what the pair judge asks for
  pub shape_latin : r ≤ n → Filled g n r s → Homes h → Latin (drawn g h n r)
  shape_latin lr f o =
      drawn_latin g h (shift n r s) fair (filled_draws g h n r s l.n_high f o) (shift_latin n r s (omega (arith, l.n_low)) lr)

  module _ (f : Filled g n r s) (o : Homes h) (x : Option (ℕ × ℕ)) (y : FirstOf (drawn g h n r) x) where
    of_shape : (z : Option (ℕ × ℕ)) → x ≡ z → FirstOf (shift n r s) z
    of_shape z q = first_drawn g h (shift n r s) fair (filled_draws g h n r s l.n_high f o) z (subst (FirstOf (drawn g h n r)) q y)

    -- its first failing pair is the shape's
    pub shape_weak : (a b : ℕ) → x ≡ Some (a, b) → Judges n r s e (Err (Weak a b))
    shape_weak a b q = judges_weak n r s e l a b (of_shape (Some (a, b)) q)

    -- and where it finds none the shape is good
    pub shape_good : x ≡ None → (k : Shape) → ShapeOf n r s e k → (b : ℕ) → b ≡ e * (n * (r + 1) + r) → Judges n r s e (Ok (k, b))
    shape_good q k w b z = judges_good n r s e l k w (no_pair_good n r s e l (of_shape None q)) b z
