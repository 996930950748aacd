-- How a shape is set: a good one that fits makes a stripe of zeros, which is sound; any other changes nothing. Assumes nothing.
-- b == the body    c == the shape that was set    room, after == the bytes of the room before and after    x == judge's answer
use Rattle.std.specs.Prelude.{◌≡◌, refl, Bool, true, false, List, ℕ, zero, suc, ◌≤◌, ◌<◌, ltb, length, get_or, take, Option, Some, Err, Ok}
use Rattle.std.proofs.Common.{sym, ap, ◌∙◌, subst, zero-add, arith, length-take-le, get_or-take, ext_get_or, eq-eqb, ne_eqb, lt-ltb, le-ltb}
use Rattle.code.specs.Bound as bound
use Rattle.code.specs.Sum.{table, pick}
use Rattle.code.specs.SumLaws.{sum_to_nil, length_table, get_or_table}
use Rattle.code.specs.AlongLaws.{along_nil}
use Rattle.element.specs.Filled.{Filled}
use Rattle.shape.specs.declared.shapes.Shape.{Shape}
use Rattle.shape.specs.declared.refusal.Refusal.{Refusal}
use Rattle.shape.specs.declared.refusal.Refusal.TheVariants.{Length}
use Rattle.shape.specs.Refusal.{number_of, refusal_some}
use Rattle.shape.specs.Shape.{layout_of, size_of}
use Rattle.shape.specs.Limits.{Limits}
use Rattle.shape.specs.WithinLaws.{to_numbers}
use Rattle.shape.specs.Call.{bytes_of}
use Rattle.shape.specs.Judge.{Judges, Judged}
use Rattle.shape.specs.JudgedCall.{refused_answered, good_limits, good_good, last_number}
use Rattle.stripebench.specs.declared.replies.Reply.TheVariants.{One}
use Rattle.stripebench.specs.declared.records.Action.TheVariants.{Judge}
use Rattle.stripebench.specs.Acting.{n_in, r_in, s_in, e_in, size_in, set_number, stripe_of, Acts}
use Rattle.stripebench.specs.Holding.{Ready, Holds}
use Rattle.stripebench.specs.ReplyLaws.{replied_done, replied_refused}

-- ---- a stripe of zeros is sound

abbrev zeros : ℕ → List ℕ
zeros m = table m (λ k. 0)

zeros_at : (m i : ℕ) → get_or (zeros m) i 0 ≡ 0
unfolding table
zeros_at zero i = refl
zeros_at (suc m) zero = refl
zeros_at (suc m) (suc i) = zeros_at m i

zeros_ready : (h : Shape) → bound.Good h.n h.r h.s → Ready h (zeros (size_of h))
zeros_ready h g =
    record {
      good = g;
      size = length_table (size_of h) (λ k. 0);
      sound = λ k lk. record {
        rows = λ i li. zeros_at (size_of h) _ ∙ sym (sum_to_nil h.n _ (λ j lj. zeros_at (size_of h) _));
        diagonals = λ d ld. zeros_at (size_of h) _ ∙ sym (along_nil (layout_of h) _ d (λ i j li lj. zeros_at (size_of h) _));
      };
    }

-- a room whose first m bytes were filled with zero begins with one
filled_zeros : (m : ℕ) (room after : List ℕ) → m ≤ length room → Filled room 0 m (λ k. 0) after → take m after ≡ zeros m
filled_zeros m room after l f =
    ext_get_or 0 (take m after) (table m (λ k. 0)) (long ∙ sym (length_table m (λ k. 0)))
    (λ i li. get_or-take m after i 0 (omega (arith, long))
    ∙ ap (λ (j : ℕ). get_or after j 0) (sym (zero-add i))
    ∙ f.inside i (omega (arith, long))
    ∙ sym (get_or_table m (λ k. 0) 0 i (omega (arith, long))))
  where
    long : length (take m after) ≡ m
    long = length-take-le m after (omega (arith, f.long))

-- ---- judge's answer

module _ (b : List ℕ) (c : Option Shape) (room : List ℕ) where
  -- a refused shape leaves all as it was
  unchanged : (y : Refusal) → number_of y ≡ set_number b → Acts Judge b c room c room (Err (number_of y))
  unchanged y q =
      record {
        reply = replied_refused (set_number b) (One (size_in b)) y q;
        shape = record { good = λ z. absurd (some z); kept = λ ne. refl };
        stripe = sym (ap (λ (t : Bool). pick t (table (size_in b) (λ k. 0)) (stripe_of c room)) (ne_eqb (set_number b) 0 some));
      }
    where
      some : set_number b ≡ 0 → ⊥
      some z = omega (arith, refusal_some y)

  module _ (n r s e : ℕ) (is : (n ≡ n_in b) × (r ≡ r_in b) × (s ≡ s_in b) × (e ≡ e_in b)) (x : Judged) (judges : Judges n r s e x) where
    j : Judges (n_in b) (r_in b) (s_in b) (e_in b) x
    j =
        subst (λ (u : ℕ). Judges u (r_in b) (s_in b) (e_in b) x) is.0
        (subst (λ (u : ℕ). Judges n u (s_in b) (e_in b) x) is.1
        (subst (λ (u : ℕ). Judges n r u (e_in b) x) is.2
        (subst (λ (u : ℕ). Judges n r s u x) is.3 judges)))

    pub set_refused : (y : Refusal) → x ≡ Err y → Acts Judge b c room c room (Err (number_of y))
    set_refused y q = unchanged y (refused_answered _ _ _ _ x j y q (size_in b) _).is

    module _ (hold : Holds c room) (g : Shape) (m : ℕ) (q : x ≡ Ok (g, m)) where
      limits : Limits (n_in b) (r_in b) (s_in b) (e_in b)
      limits = good_limits _ _ _ _ x j g m q

      good : bound.Good (n_in b) (r_in b) (s_in b)
      good = good_good _ _ _ _ x j g m q

      number : (t : Bool) → ltb 32768 (size_in b) ≡ t → set_number b ≡ pick t 6 0
      number t w =
          last_number _ _ _ _ limits good (size_in b) (pick (ltb 32768 (size_in b)) 6 0) refl
          ∙ ap (λ (u : Bool). pick u 6 0) w

      same : m ≡ size_in b
      same = (j.good g m q).1

      -- 6: it does not fit
      pub set_large : length room < m → Acts Judge b c room c room (Err (number_of Length))
      set_large l = unchanged Length (sym (number true (lt-ltb 32768 (size_in b) (omega (arith, same, hold.long)))))

      -- 0: it is set
      module _ (l : m ≤ length room) where
        none : set_number b ≡ 0
        none = number false (le-ltb 32768 (size_in b) (omega (arith, same, hold.long)))

        module _ (after : List ℕ) (f : Filled room 0 m (λ k. 0) after) where
          size : size_of g ≡ m
          size = to_numbers _ _ _ _ g (j.good g m q).0 (λ n r s e. bytes_of n r e ≡ m) (sym same)

          begins : take (size_of g) after ≡ zeros (size_of g)
          begins = ap (λ (k : ℕ). take k after) size ∙ filled_zeros m room after l f ∙ ap zeros (sym size)

          ready : Ready g (take (size_of g) after)
          ready =
              subst (λ (s : List ℕ). Ready g s) (sym begins)
              (zeros_ready g (to_numbers _ _ _ _ g (j.good g m q).0 (λ n r s e. bound.Good n r s) good))

          pub holds_good : Holds (Some g) after
          holds_good =
              record {
                long = f.long ∙ hold.long;
                ready = λ h w.
                    let shapes : g ≡ h = cc in
                    let fits : size_of g ≤ 32768 = omega (arith, size, hold.long) in
                    subst (λ (u : Shape). (size_of u ≤ 32768) × Ready u (take (size_of u) after)) shapes (fits, ready);
              }

          pub set_good : Acts Judge b c room (Some g) after (Ok (One m))
          set_good =
              record {
                reply = ap (λ (k : ℕ). Ok (One k)) same ∙ replied_done (set_number b) (One (size_in b)) none;
                shape = record { good = λ z. (g, refl, (j.good g m q).0); kept = λ ne. absurd (ne none) };
                stripe =
                    begins ∙ ap zeros (size ∙ same)
                    ∙ sym (ap (λ (u : Bool). pick u (zeros (size_in b)) (stripe_of c room)) (eq-eqb (set_number b) 0 none));
              }
