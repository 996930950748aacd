-- Laws of a run of written steps: none has run, and one more. Assumes nothing.
-- w u == step u as it is written    k == how many have run
use Rattle.std.specs.Prelude.{ℕ, ◌+◌, ◌≡◌, refl, Bool, true, false, List, length, get_or, set}
use Rattle.std.proofs.Common.{sym, ◌∙◌, subst, length-set}
use Rattle.code.specs.Layout.{Layout}
use Rattle.code.specs.Steps.{Written, plan_of}
use Rattle.rebuild.proofs.RunLaws.{run_none, run_more}
use Rattle.rebuild.specs.Stepping.{Stepped}
use Rattle.rebuild.specs.Marks.{Marked, marked_none, marked_more}
use Rattle.rebuild.specs.Running.{Running}

module _ (L : Layout) (e : ℕ) (w : ℕ → Written) (before : List ℕ) where
  pub running_none : (used : List Bool) → length used ≡ 64 → ((t : ℕ) → get_or used t false ≡ false) → Running L e w 0 before before used
  running_none used room zero =
      record { run = run_none L e (plan_of L w) before; size = refl; marks = marked_none (plan_of L w) used zero; room = room }

  -- one step more, its line marked
  pub running_more : (k : ℕ) (s u : List ℕ) (used : List Bool) → Running L e w k before s used → (x : Written) → w k ≡ x → (t : ℕ) → Stepped L e x s u t
      → Running L e w (k + 1) before u (set used t true)
  running_more k s u used g x is t y =
      let z : Stepped L e (w k) s u t = subst (λ (v : Written). Stepped L e v s u t) (sym is) y in
      record {
        run = run_more L e (plan_of L w) k before s u g.run z.set;
        size = y.set.size ∙ g.size;
        marks = subst (λ (v : ℕ). Marked (plan_of L w) (k + 1) (set used v true)) (sym z.its_line) (marked_more (plan_of L w) k used true g.marks);
        room = length-set used t true ∙ g.room;
      }
