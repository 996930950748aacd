-- The sweep over all lines: those passed give nothing, and stay so while later chains are followed. Assumes nothing.
use Rattle.std.specs.Prelude.{ℕ, ◌+◌, ◌<◌, ◌≤◌, ◌≡◌, List, Bool, true, false}
use Rattle.std.proofs.Common.{sym, subst, arith}
use Rattle.std.proofs.Math.Decide.{ℕ_discrete}
use Rattle.code.specs.SumLaws.{clash}
use Rattle.code.specs.Layout.{Layout, Fair, pair}
use Rattle.code.specs.LayoutLaws.{pair_right}
use Rattle.code.specs.Live.{Line, row, diagonal, Lone, Finished}
use Rattle.code.specs.LiveLaws.{lone_ext}
use Rattle.code.specs.Steps.{BuiltAt}
use Rattle.code.specs.Walk.{Walk}
use Rattle.walker.specs.declared.plan.Step.{Step}
use Rattle.walker.specs.Flags.{Marked, clear, clear_board, clear_unmarked, unknowns_most, unknowns_strip}
use Rattle.walker.specs.Written.{written}
use Rattle.walker.specs.Search.{Gap}
use Rattle.walker.specs.Chain.{State, Stepped}

-- the first x rows and the first d diagonals give nothing
pub record Swept (L : Layout) (lost : ℕ → Bool) (g : List (List Bool)) (s : List Step) (k x d : ℕ) : Type 0 where
  pub state : State L lost g s k
  pub no_row : (v : ℕ) → v < x → (i j : ℕ) → Lone L lost (Marked g) (row v) i j → ⊥
  pub no_diagonal : (v : ℕ) → v < d → (i j : ℕ) → Lone L lost (Marked g) (diagonal v) i j → ⊥

-- ---- laws

-- nothing is built yet
pub begin : (L : Layout) (a b : ℕ) → L.n ≤ 32 → L.r ≤ 32 → (s : List Step) (k : ℕ) → k ≡ 0 → State L (pair a b) clear s k
begin L a b ln lr s k z =
    record {
      board = clear_board L lr ln;
      room = omega (arith, unknowns_most L a b clear, lr, z);
      right = record { right = λ u l. absurd (omega (arith, l, z)) };
      inside = λ i j m. absurd (clear_unmarked i j m);
      to = λ i j m. absurd (clear_unmarked i j m);
      from = λ i j b. absurd (early b.early);
    }
  where
    early : {u : ℕ} → u < k → ⊥
    early l = omega (arith, z)

-- where strip n is lost its elements have room too
pub h_room : (L : Layout) (a b : ℕ) {g : List (List Bool)} {s : List Step} {k : ℕ} → State L (pair a b) g s k → b ≡ L.n → k + L.r ≤ 64
h_room L a b {g} S e =
    omega (
      arith,
      S.room,
      unknowns_strip L (pair a b) g L.n (omega arith) (subst (λ (x : ℕ). pair a b x ≡ true) e (pair_right a b)) (λ i m. past (S.inside i L.n m).1),
    )
  where
    past : L.n < L.n → ⊥
    past l = omega arith

module _ {L : Layout} {lost : ℕ → Bool} {g : List (List Bool)} {s : List Step} {k : ℕ} where
  module _ {x d : ℕ} (w : Swept L lost g s k x d) {f : List (List Bool)} {t : List Step} {e : ℕ} where
    pub row_passed : Stepped L lost (row x) g f t e → Swept L lost f t e (x + 1) d
    row_passed z =
        record {
          state = z.state;
          no_row = λ v lv. go v lv (ℕ_discrete v x);
          no_diagonal = λ v lv i j y. w.no_diagonal v lv i j (z.opened (diagonal v) i j y);
        }
      where
        go : (v : ℕ) → v < x + 1 → Dec (v ≡ x) → (i j : ℕ) → Lone L lost (Marked f) (row v) i j → ⊥
        go v lv (yes q) = subst (λ (u : ℕ). (i j : ℕ) → Lone L lost (Marked f) (row u) i j → ⊥) (sym q) z.none
        go v lv (no ne) = λ i j y. w.no_row v (omega arith) i j (z.opened (row v) i j y)

    pub diagonal_passed : Stepped L lost (diagonal d) g f t e → Swept L lost f t e x (d + 1)
    diagonal_passed z =
        record {
          state = z.state;
          no_row = λ v lv i j y. w.no_row v lv i j (z.opened (row v) i j y);
          no_diagonal = λ v lv. go v lv (ℕ_discrete v d);
        }
      where
        go : (v : ℕ) → v < d + 1 → Dec (v ≡ d) → (i j : ℕ) → Lone L lost (Marked f) (diagonal v) i j → ⊥
        go v lv (yes q) = subst (λ (u : ℕ). (i j : ℕ) → Lone L lost (Marked f) (diagonal u) i j → ⊥) (sym q) z.none
        go v lv (no ne) = λ i j y. w.no_diagonal v (omega arith) i j (z.opened (diagonal v) i j y)

  module _ (F : Fair L) (w : Swept L lost g s k L.r L.n) where
    pub swept_finished : Finished L lost (BuiltAt (written s) k)
    swept_finished = record { none = λ K i j y. shut K i j (lone_ext L lost (λ h l lh ll. w.state.from h l) (λ h l lh ll. w.state.to h l) y) }
      where
        shut : (K : Line) (i j : ℕ) → Lone L lost (Marked g) K i j → ⊥
        shut (row x) i j y = w.no_row x (subst (λ (u : ℕ). u < L.r) y.on y.row_below) i j y
        shut (diagonal d) i j y = w.no_diagonal d (subst (λ (u : ℕ). u < L.n) y.on (F.diagonal_lt i j y.row_below y.strip_below)) i j y

    -- a data element is left
    pub walk_left : (c : ℕ) → lost c ≡ true → Gap L.n L.r g c → Walk L lost (written s) k false
    walk_left c e q =
        record {
          room = omega (arith, w.state.room);
          right = w.state.right;
          finished = swept_finished;
          all = λ z. clash z;
          some = λ z. record { row = q.row; strip = c; row_below = q.row_below; strip_below = q.strip_below; is_lost = e; unknown = λ b. q.new (w.state.from q.row c b) };
        }
