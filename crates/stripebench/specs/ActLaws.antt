-- What a call on the stripe leaves: a stripe that is sound again, at the start of the room. Assumes nothing.
-- b == the body    c == the shape that is set    room, after == the bytes of the room before and after    z == the reply
use Rattle.std.specs.Prelude.{◌≡◌, List, [], ◌∷◌, ℕ, ◌≤◌, length, get_or, take, drop, Option, Some, Result}
use Rattle.std.proofs.Common.{sym, ◌∙◌, subst}
use Rattle.std.proofs.Math.Decide.{ℕ_discrete}
use Rattle.shape.specs.declared.shapes.Shape.{Shape}
use Rattle.shape.specs.Shape.{layout_of, size_of}
use Rattle.shape.specs.LimitsLaws.{limits_fair}
use Rattle.patch.proofs.WrittenLaws.{written_length}
use Rattle.stripe.specs.Write.{write_number, written}
use Rattle.stripe.specs.WriteLaws.{written_sound, written_refused, written_done}
use Rattle.stripe.specs.WriteNumber.{number_accepted}
use Rattle.stripebench.specs.declared.replies.Reply.{Reply}
use Rattle.stripebench.specs.declared.records.Call.{Call}
use Rattle.stripebench.specs.declared.records.Call.TheVariants.{Write, Rebuild, Scrub, Read}
use Rattle.stripebench.specs.Numbers.{low_first}
use Rattle.stripebench.specs.Acting.{call_stripe, write_stripe, Calls}
use Rattle.stripebench.specs.Holding.{Ready, Holds}

-- ---- one call

module _ (h : Shape) (b s : List ℕ) (k : Ready h s) where
  -- done or refused, a write leaves a sound stripe
  write_ready : Ready h (write_stripe h b s)
  write_ready = go (ℕ_discrete (write_number h.n h.r h.s h.e (length s) i j o 1) 0)
    where
      i : ℕ
      i = get_or b 0 0

      j : ℕ
      j = get_or b 1 0

      o : ℕ
      o = low_first (take 2 (drop 2 b))

      run : List ℕ
      run = get_or b 4 0 ∷ []

      go : Dec (write_number h.n h.r h.s h.e (length s) i j o 1 ≡ 0) → Ready h (written h.n h.r h.s h.e i j o run s)
      go (no z) = subst (λ (a : List ℕ). Ready h a) (sym (written_refused h.n h.r h.s h.e i j o run s z)) k
      go (yes z) =
          let y = number_accepted h.n h.r h.s h.e (length s) i j o 1 z in
          let fair = limits_fair h.n h.r h.s _ h.limits in
          subst (λ (a : List ℕ). Ready h a) (sym (written_done h.n h.r h.s h.e i j o run s z))
          (record {
            good = k.good;
            size = written_length (layout_of h) h.e i j o run s ∙ k.size;
            sound = written_sound (layout_of h) h.e i j o run s fair y.row y.strip y.sized k.sound;
          })

  -- so every call does
  call_ready : (call : Call) → Ready h (call_stripe call h b s)
  call_ready Write = write_ready
  call_ready Rebuild = k
  call_ready Scrub = k
  call_ready Read = k

-- ---- in the room

module _ (call : Call) (h : Shape) (b : List ℕ) (c : Option Shape) (room : List ℕ) (q : c ≡ Some h) (hold : Holds c room) (after : List ℕ) (z : Result Reply ℕ)
    (long : length after ≡ length room) (w : Calls call h b (take (size_of h) room) (take (size_of h) after) z) where
  ready : Ready h (take (size_of h) after)
  ready = subst (λ (a : List ℕ). Ready h a) (sym w.stripe) (call_ready h b (take (size_of h) room) (hold.ready h q).1 call)

  pub holds_set : Holds c after
  holds_set =
      record {
        long = long ∙ hold.long;
        ready = λ g e.
            let shapes : h ≡ g = cc in
            subst (λ (u : Shape). (size_of u ≤ 32768) × Ready u (take (size_of u) after)) shapes ((hold.ready h q).0, ready);
      }
