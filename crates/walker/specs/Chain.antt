-- A chain: what holds between two of its steps, and what one step of it leaves. Assumes nothing.
-- g, f == the flags before and after    s == the steps of the plan    k == how many are written down
use Rattle.std.specs.Prelude.{ℕ, ◌+◌, ◌<◌, ◌≤◌, ◌≡◌, List, Bool, ◌⊎◌}
use Rattle.std.proofs.Common.{sym, ap, ◌∙◌, subst, inl, inr, arith}
use Rattle.code.specs.Layout.{Layout}
use Rattle.code.specs.Live.{Line, row, diagonal, On, Lone}
use Rattle.code.specs.LiveLaws.{Adds, through, lone_used, goes_on}
use Rattle.code.specs.Steps.{BuiltAt, RightStep, RightSteps}
use Rattle.walker.specs.declared.plan.Step.{Step}
use Rattle.walker.specs.Flags.{Marked, Board, put, put_board, put_adds, unknowns, unknowns_fall}
use Rattle.walker.specs.Written.{step, written, Recorded, built_adds, right_ext, right_more}

-- every step is right, the flags are those of the steps' targets, all data, and there is room for the elements that are unknown
pub record State (L : Layout) (lost : ℕ → Bool) (g : List (List Bool)) (s : List Step) (k : ℕ) : Type 0 where
  pub board : Board L g
  pub room : k + unknowns L lost g ≤ 64
  pub right : RightSteps L lost (written s) k
  pub inside : (i j : ℕ) → Marked g i j → (i < L.r) × (j < L.n)
  pub to : (i j : ℕ) → Marked g i j → BuiltAt (written s) k i j
  pub from : (i j : ℕ) → BuiltAt (written s) k i j → Marked g i j

-- the line K was followed: it gives nothing more, and no line gives what it did not give before
pub record Stepped (L : Layout) (lost : ℕ → Bool) (K : Line) (g f : List (List Bool)) (s : List Step) (k : ℕ) : Type 0 where
  pub state : State L lost f s k
  pub none : (i j : ℕ) → Lone L lost (Marked f) K i j → ⊥
  pub opened : (M : Line) (i j : ℕ) → Lone L lost (Marked f) M i j → Lone L lost (Marked g) M i j

-- ---- laws

-- the two lines through an element, the row first and the diagonal first
pub row_first : (L : Layout) (x d i j : ℕ) → i ≡ x → d ≡ L.diagonal i j → (K : Line) → On L K i j → (K ≡ row x) ⊎ (K ≡ diagonal d)
row_first L x d i j e f K o = go (through L i j K o)
  where
    go : (K ≡ row i) ⊎ (K ≡ diagonal (L.diagonal i j)) → (K ≡ row x) ⊎ (K ≡ diagonal d)
    go (inl p) = inl (p ∙ ap row e)
    go (inr p) = inr (p ∙ ap diagonal (sym f))

pub diagonal_first : (L : Layout) (d i j : ℕ) → L.diagonal i j ≡ d → (K : Line) → On L K i j → (K ≡ diagonal d) ⊎ (K ≡ row i)
diagonal_first L d i j e K o = go (through L i j K o)
  where
    go : (K ≡ row i) ⊎ (K ≡ diagonal (L.diagonal i j)) → (K ≡ diagonal d) ⊎ (K ≡ row i)
    go (inl p) = inr p
    go (inr p) = inl (p ∙ ap diagonal e)

module _ {L : Layout} {lost : ℕ → Bool} {K : Line} {g : List (List Bool)} {s : List Step} {k i j : ℕ} (S : State L lost g s k)
    (x : Lone L lost (Marked g) K i j) where
  adds : Adds (Marked g) (Marked (put g i j)) i j
  adds = put_adds S.board x.row_below x.strip_below

  -- the number of unknown elements falls
  pub fall : unknowns L lost (put g i j) < unknowns L lost g
  fall = unknowns_fall L lost g (put g i j) i j adds x.row_below x.strip_below x.is_lost x.new

  -- the step is taken
  pub taken : {t : List Step} {e kind : ℕ} → Recorded s k kind i j t e → RightStep L lost (Marked g) (step kind i j) → State L lost (put g i j) t e
  taken {t} {e} {kind} w ok =
      record {
        board = put_board S.board x.row_below x.strip_below;
        room = omega (arith, fall, S.room, w.count);
        right = right_more w S.right (right_ext S.to S.from ok);
        inside = λ h l m. within h l (adds.only h l m);
        to = λ h l m. both adds more S.to h l m;
        from = λ h l m. both more adds S.from h l m;
      }
    where
      more : Adds (BuiltAt (written s) k) (BuiltAt (written t) e) i j
      more = built_adds w

      within : (h l : ℕ) → Marked g h l ⊎ ((h ≡ i) × (l ≡ j)) → (h < L.r) × (l < L.n)
      within h l (inl m) = S.inside h l m
      within h l (inr q) = (omega (arith, x.row_below, q.0), omega (arith, x.strip_below, q.1))

      both : {B C D E : ℕ → ℕ → Type 0} → Adds B C i j → Adds D E i j → ((h l : ℕ) → B h l → D h l) → (h l : ℕ) → C h l → E h l
      both {B} {C} {D} {E} p q f h l c = go (p.only h l c)
        where
          go : B h l ⊎ ((h ≡ i) × (l ≡ j)) → E h l
          go (inl z) = q.grows h l (f h l z)
          go (inr y) = subst (λ (v : ℕ). E h v) (sym y.1) (subst (λ (u : ℕ). E u j) (sym y.0) q.here)

  -- the chain went on by the other line through the element
  pub stepped_on : {M : Line} → ((N : Line) → On L N i j → (N ≡ K) ⊎ (N ≡ M)) → {f : List (List Bool)} {t : List Step} {e : ℕ}
      → Stepped L lost M (put g i j) f t e → Stepped L lost K g f t e
  stepped_on two z =
      record {
        state = z.state;
        none = λ h l y. lone_used L lost adds x (z.opened K h l y);
        opened = goes_on L lost adds two x z.none z.opened;
      }
