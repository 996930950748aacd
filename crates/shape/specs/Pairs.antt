-- What the pair judge answers. Assumes nothing.
use Rattle.std.specs.Prelude.{ℕ, ◌+◌, ◌<◌, ◌≤◌, ◌≡◌, Option, Some, None}
use Rattle.std.proofs.Common.{sym, subst, inl, inr, arith}
use Rattle.std.proofs.Math.Decide.{ℕ_discrete}
use Rattle.code.specs.Bound.{Before, FirstPair}
use Rattle.code.specs.Code.{Decided, Fails}
use Rattle.code.specs.Layout.{Layout, code, pair}

-- every pair of the strips 0 .. n is decided by the rest
pub record NoPair (L : Layout) : Type 0 where
  pub decided : (c d : ℕ) → c < d → d ≤ L.n → Decided (code L) (pair c d)

abbrev pub FirstOf : Layout → Option (ℕ × ℕ) → Type 0
FirstOf L (Some (a, b)) = FirstPair L a b
FirstOf L None = NoPair L

-- every pair before (a, b) is decided by the rest
pub record Passed (L : Layout) (a b : ℕ) : Type 0 where
  pub lower : (c d : ℕ) → c < a → c < d → d ≤ L.n → Decided (code L) (pair c d)
  pub same : (d : ℕ) → a < d → d ≤ L.n → d < b → Decided (code L) (pair a d)

-- ---- laws of the search

module _ (L : Layout) where
  pub passed_start : Passed L 0 0
  passed_start = record { lower = λ c d l. absurd (omega arith); same = λ d l ld e. absurd (omega arith) }

  module _ (a b : ℕ) (x : Passed L a b) where
    pub passed_turn : b ≤ a + 1 → Passed L a (a + 1)
    passed_turn l = record { lower = x.lower; same = λ d ld le lb. absurd (omega arith) }

    pub passed_next : Decided (code L) (pair a b) → Passed L a (b + 1)
    passed_next y = record { lower = x.lower; same = λ d ld le lb. go d ld le lb (ℕ_discrete d b) }
      where
        go : (d : ℕ) → a < d → d ≤ L.n → d < b + 1 → Dec (d ≡ b) → Decided (code L) (pair a d)
        go d ld le lb (yes e) = subst (λ (z : ℕ). Decided (code L) (pair a z)) (sym e) y
        go d ld le lb (no ne) = x.same d ld le (omega arith)

    pub passed_row : L.n < b → Passed L (a + 1) 0
    passed_row l = record { lower = λ c d lc ld le. go c d lc ld le (ℕ_discrete c a); same = λ d ld le e. absurd (omega arith) }
      where
        go : (c d : ℕ) → c < a + 1 → c < d → d ≤ L.n → Dec (c ≡ a) → Decided (code L) (pair c d)
        go c d lc ld le (yes e) = subst (λ (z : ℕ). Decided (code L) (pair z d)) (sym e) (x.same d (omega arith) le (omega arith))
        go c d lc ld le (no ne) = x.lower c d (omega arith) ld le

    -- the pair at hand fails, so it is the first
    pub passed_first : a < b → b ≤ L.n → Fails (code L) (pair a b) → FirstPair L a b
    passed_first l lb f = record { order = l; within = lb; fails = f; before = λ c d lc ld w. go c d lc ld w }
      where
        go : (c d : ℕ) → c < d → d ≤ L.n → Before c d a b → Decided (code L) (pair c d)
        go c d lc ld (inl w) = x.lower c d w lc ld
        go c d lc ld (inr w) = subst (λ (z : ℕ). Decided (code L) (pair z d)) (sym w.0) (x.same d (subst (λ (z : ℕ). z < d) w.0 lc) ld w.1)

    pub passed_all : L.n ≤ a → NoPair L
    passed_all l = record { decided = λ c d lc ld. x.lower c d (omega arith) lc ld }
