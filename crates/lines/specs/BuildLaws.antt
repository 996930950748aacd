-- How a place is built: a gather over the listed others puts their sum at the one. Assumes nothing.
-- os == where the elements of line t start    m == how many they are    o == where the one starts, which is taken out    ws == what is left, the last in its room
-- s, u == the stripe before and after
use Rattle.std.specs.Prelude.{◌≡◌, List, ℕ, ◌+◌, ◌-◌, ◌*◌, ◌≤◌, ◌<◌, length, get_or, set, take}
use Rattle.std.proofs.Common.{sym, ap, ◌∙◌, subst, arith, length-set, length-take-le, get_or-take, get_or-set_same, get_or-set_other}
use Rattle.std.proofs.Math.Decide.{ℕ_discrete}
use Rattle.code.specs.Xor.{⊕_of_eq}
use Rattle.code.specs.Sum.{sum}
use Rattle.code.specs.SumLaws.{sum_ext}
use Rattle.code.specs.Place.{at, inside}
use Rattle.code.specs.Layout.{Layout, Fair, places, line}
use Rattle.code.specs.LayoutLaws.{layout_within}
use Rattle.element.specs.Gather.{Fits, Apart, Gathered}
use Rattle.element.specs.Placed.{Offsets, Placed}
use Rattle.element.specs.PlacedLaws.{offsets_fit, offsets_apart, gathered_placed}
use Rattle.lines.specs.Listed.{Listed}
use Rattle.lines.specs.ListedCount.{Count}
use Rattle.lines.specs.Others.{others, Builds}
use Rattle.lines.specs.OthersLaws.{others_length, others_at, from_line, from_same, from_other, from_else, sum_others, others_apart}

module _ (L : Layout) (F : Fair L) (e t : ℕ) (lt : t < L.r + L.n) (v : ℕ) (lv : v < length (line L t)) where
  -- the others summed and put at the one: the line sums to zero
  placed_builds : (s u : List ℕ) → Placed s e (get_or (line L t) v 0) (λ k. sum (at s e k) (others (line L t) v)) u → Builds L e t v s u
  placed_builds s u p =
      record {
        size = p.long;
        each = λ k lk. record {
          others = λ q ne. p.there q k lk ne;
          balanced = sum_others (at u e k) (line L t) v lv
              ∙ ⊕_of_eq (sum (at u e k) (others (line L t) v)) (at u e k (get_or (line L t) v 0))
              (sum_ext (at u e k) (at s e k) (others (line L t) v)
              (λ w lw. p.there (get_or (others (line L t) v) w 0) k lk (others_apart L F t v w lt lv (omega (arith, others_length (line L t) v))))
              ∙ sym (p.here k lk));
        };
      }

  module _ (os : List ℕ) (m : ℕ) (l : Listed L e t os m) (c : Count m) (o : ℕ) (its : o ≡ get_or os v 0) where
    start : o ≡ get_or (line L t) v 0 * e
    start = its ∙ l.each v (omega (arith, l.count))

    -- what gather asks: the one lies in the stripe
    pub build_inside : (s : List ℕ) → length s ≡ e * places L → o + e ≤ length s
    build_inside s size = omega (arith, start, inside e (get_or (line L t) v 0) (places L) ((layout_within L F).below t v lt lv))

    -- the others start where the list that is left says
    module _ (ws : List ℕ) (is : ws ≡ take (m - 1) (set os v (get_or os (m - 1) 0))) where
      long : length (take (m - 1) (set os v (get_or os (m - 1) 0))) ≡ m - 1
      long = length-take-le (m - 1) (set os v (get_or os (m - 1) 0)) (omega (arith, length-set os v (get_or os (m - 1) 0), l.room, c.high))

      each_start : (w : ℕ) → w < m - 1 → Dec (w ≡ v) → get_or (set os v (get_or os (m - 1) 0)) w 0 ≡ get_or (line L t) (from_line m v w) 0 * e
      each_start w lw (yes q) =
          ap (λ (x : ℕ). get_or (set os v (get_or os (m - 1) 0)) x 0) q
          ∙ get_or-set_same os v (get_or os (m - 1) 0) 0 (omega (arith, l.room, c.high, l.count))
          ∙ l.each (m - 1) (omega (arith, c.low))
          ∙ ap (λ (x : ℕ). get_or (line L t) x 0 * e) (sym (from_same m v) ∙ ap (from_line m v) (sym q))
      each_start w lw (no ne) =
          get_or-set_other os v w (get_or os (m - 1) 0) 0 ne
          ∙ l.each w (omega arith)
          ∙ ap (λ (x : ℕ). get_or (line L t) x 0 * e) (sym (from_other m v w ne))

      listed_others : Offsets e (others (line L t) v) ws
      listed_others =
          record {
            long = ap length is ∙ long ∙ ap (λ (x : ℕ). x - 1) l.count ∙ sym (others_length (line L t) v);
            each = λ w lw.
                let lm : w < m - 1 = omega (arith, others_length (line L t) v, l.count) in
                ap (λ (xs : List ℕ). get_or xs w 0) is
                ∙ get_or-take (m - 1) (set os v (get_or os (m - 1) 0)) w 0 lm
                ∙ each_start w lm (ℕ_discrete w v)
                ∙ ap (λ (x : ℕ). get_or (line L t) (from_line x v w) 0 * e) l.count
                ∙ ap (λ (x : ℕ). x * e) (sym (others_at (line L t) v w (omega (arith, l.count))));
          }

      pub build_fits : (s : List ℕ) → length s ≡ e * places L → Fits s e ws
      build_fits s size =
          offsets_fit s (others (line L t) v) ws e (places L) size listed_others
          (λ w lw.
          let lm : w < length (line L t) - 1 = omega (arith, others_length (line L t) v) in
          subst (λ (p : ℕ). p < places L) (sym (others_at (line L t) v w lm)) ((layout_within L F).below t (from_line (length (line L t)) v w) lt (from_else (length (line L t)) v w lm).within))

      pub build_apart : Apart e o ws
      build_apart =
          offsets_apart (others (line L t) v) ws e (get_or (line L t) v 0) o start listed_others
          (λ w lw. others_apart L F t v w lt lv (omega (arith, others_length (line L t) v)))

      -- and what it leaves
      pub gathered_builds : (s u : List ℕ) → Gathered s e o ws u → Builds L e t v s u
      gathered_builds s u g = placed_builds s u (gathered_placed s (others (line L t) v) ws e (get_or (line L t) v 0) o u start listed_others g)
