-- The marks of the lines that a run used: a line that no step used has none. Assumes nothing.
-- marks == a flag for each line; true is a mark
use Rattle.std.specs.Prelude.{◌≡◌, Bool, false, List, ℕ, ◌+◌, get_or, set}
use Rattle.std.proofs.Common.{sym, ◌∙◌, arith, get_or-set_other}
use Rattle.code.specs.Plan.{Step}
use Rattle.code.specs.Unused.{Unused}

-- a line that none of the first k steps used has no mark
pub record Marked (plan : ℕ → Step) (k : ℕ) (marks : List Bool) : Type 0 where
  pub unmarked : (t : ℕ) → Unused plan k t → get_or marks t false ≡ false

module _ (plan : ℕ → Step) where
  pub marked_none : (marks : List Bool) → ((t : ℕ) → get_or marks t false ≡ false) → Marked plan 0 marks
  marked_none marks h = record { unmarked = λ t u. h t }

  -- step k marks its line
  pub marked_more : (k : ℕ) (marks : List Bool) (v : Bool) → Marked plan k marks → Marked plan (k + 1) (set marks (plan k).line v)
  marked_more k marks v m =
      record {
        unmarked = λ t u.
            get_or-set_other marks (plan k).line t v false (λ q. u.by_none k (omega arith) (sym q))
            ∙ m.unmarked t (record { by_none = λ w lw. u.by_none w (omega arith) });
      }
