-- WHAT A RECORD DOES, kind by kind: its answer, the shape that is set, and the stripe that is left. Assumes nothing.
-- b == the record's body, in a buffer of eight bytes    h == the shape that is set    s == its stripe
-- n_in b, r_in b, s_in b, e_in b == the numbers of the shape that b has    size_in b == the bytes of its stripe
use Rattle.std.specs.Prelude.{◌≡◌, ◌≢◌, List, [], ◌∷◌, ℕ, eqb, ltb, length, get_or, take, drop, Option, Some, None, Result, Err}
use Rattle.code.specs.Sum.{table, pick}
use Rattle.code.specs.Below.{count}
use Rattle.shape.specs.declared.shapes.Shape.{Shape}
use Rattle.shape.specs.Shape.{ShapeOf, layout_of, size_of}
use Rattle.shape.specs.Mask.{lost_in}
use Rattle.shape.specs.Call.{bytes_of, call_number}
use Rattle.finding.specs.Found.{wrong_row, wrong_diagonal}
use Rattle.stripe.specs.Write.{write_number, written}
use Rattle.stripe.specs.Read.{read_number, read_part}
use Rattle.rebuild.specs.Rebuild.{rebuild_number}
use Rattle.stripebench.specs.declared.replies.Reply.{Reply}
use Rattle.stripebench.specs.declared.replies.Reply.TheVariants.{Done, One, Two}
use Rattle.stripebench.specs.declared.records.Call.{Call}
use Rattle.stripebench.specs.declared.records.Call.TheVariants.{Write, Rebuild, Scrub, Read}
use Rattle.stripebench.specs.declared.records.Action.{Action}
use Rattle.stripebench.specs.declared.records.Action.TheVariants.{Judge, Stripe}
use Rattle.stripebench.specs.Numbers.{low_first}
use Rattle.stripebench.specs.Replies.{replied}

-- ---- kind 1: n, r, s, then e in two bytes

module _ (b : List ℕ) where
  abbrev pub n_in : ℕ
  n_in = get_or b 0 0

  abbrev pub r_in : ℕ
  r_in = get_or b 1 0

  abbrev pub s_in : ℕ
  s_in = get_or b 2 0

  abbrev pub e_in : ℕ
  e_in = low_first (take 2 (drop 3 b))

  abbrev pub size_in : ℕ
  size_in = bytes_of n_in r_in e_in

  -- 1 to 5, as of a buffer that has the stripe's size; then 6 for a size above 32768
  abbrev pub set_number : ℕ
  set_number = call_number n_in r_in s_in e_in size_in (pick (ltb 32768 size_in) 6 0)

  -- a good shape makes an all-zero stripe; a refused one leaves the former shape and stripe
  abbrev pub set_reply : Result Reply ℕ
  set_reply = replied set_number (One size_in)

  pub record Sets (c d : Option Shape) : Type 0 where
    pub good : set_number ≡ 0 → (h : Shape) × (d ≡ Some h) × ShapeOf n_in r_in s_in e_in h
    pub kept : set_number ≢ 0 → d ≡ c

  abbrev pub set_stripe : List ℕ → List ℕ
  set_stripe s = pick (eqb set_number 0) (table size_in (λ k. 0)) s

-- ---- kinds 2 to 5, on the stripe that is there

module _ (h : Shape) (b s : List ℕ) where
  -- row, strip, offset in two bytes, value
  abbrev pub write_reply : Result Reply ℕ
  write_reply = replied (write_number h.n h.r h.s h.e (length s) (get_or b 0 0) (get_or b 1 0) (low_first (take 2 (drop 2 b))) 1) Done

  abbrev pub write_stripe : List ℕ
  write_stripe = written h.n h.r h.s h.e (get_or b 0 0) (get_or b 1 0) (low_first (take 2 (drop 2 b))) (get_or b 4 0 ∷ []) s

  -- mask in eight bytes; with 0 the number of strips lost
  abbrev pub rebuild_reply : Result Reply ℕ
  rebuild_reply = replied (rebuild_number h.n h.r h.s h.e (length s) (low_first b) 0) (One (count 64 (lost_in (low_first b))))

  -- row, strip; with 0 the element's first byte
  abbrev pub read_reply : Result Reply ℕ
  read_reply =
      replied (read_number h.n h.r h.s h.e (length s) (get_or b 0 0) (get_or b 1 0))
      (One (get_or (read_part h.n h.r h.s h.e (get_or b 0 0) (get_or b 1 0) s) 0 0))

-- with 0 the wrong rows and the wrong diagonals
abbrev pub scrub_reply : Shape → List ℕ → Result Reply ℕ
scrub_reply h s =
    replied (call_number h.n h.r h.s h.e (length s) 0)
    (Two (count h.r (wrong_row (layout_of h) h.e s)) (count h.n (wrong_diagonal (layout_of h) h.e s)))

abbrev pub call_reply : Call → Shape → List ℕ → List ℕ → Result Reply ℕ
call_reply Write h b s = write_reply h b s
call_reply Rebuild h b s = rebuild_reply h b s
call_reply Scrub h b s = scrub_reply h s
call_reply Read h b s = read_reply h b s

-- only a write changes the stripe: it is sound, so rebuild gives back what was lost
abbrev pub call_stripe : Call → Shape → List ℕ → List ℕ → List ℕ
call_stripe Write h b s = write_stripe h b s
call_stripe Rebuild h b s = s
call_stripe Scrub h b s = s
call_stripe Read h b s = s

pub record Calls (call : Call) (h : Shape) (b before after : List ℕ) (x : Result Reply ℕ) : Type 0 where
  pub reply : x ≡ call_reply call h b before
  pub stripe : after ≡ call_stripe call h b before

-- ---- any kind: without a shape every call is refused with 11

-- the stripe stands at the start of the room
abbrev pub stripe_of : Option Shape → List ℕ → List ℕ
stripe_of None room = []
stripe_of (Some h) room = take (size_of h) room

abbrev pub act_reply : Action → List ℕ → Option Shape → List ℕ → Result Reply ℕ
act_reply Judge b c s = set_reply b
act_reply (Stripe call) b None s = Err 11
act_reply (Stripe call) b (Some h) s = call_reply call h b s

-- only a good shape becomes the one that is set
abbrev pub ActSets : Action → List ℕ → Option Shape → Option Shape → Type 0
ActSets Judge b c d = Sets b c d
ActSets (Stripe call) b c d = d ≡ c

abbrev pub act_stripe : Action → List ℕ → Option Shape → List ℕ → List ℕ
act_stripe Judge b c s = set_stripe b s
act_stripe (Stripe call) b None s = s
act_stripe (Stripe call) b (Some h) s = call_stripe call h b s

-- c, d == the shape that is set before and after    before, after == the bytes of the room
pub record Acts (action : Action) (b : List ℕ) (c : Option Shape) (before : List ℕ) (d : Option Shape) (after : List ℕ) (x : Result Reply ℕ) : Type 0 where
  pub reply : x ≡ act_reply action b c (stripe_of c before)
  pub shape : ActSets action b c d
  pub stripe : stripe_of d after ≡ act_stripe action b c (stripe_of c before)
