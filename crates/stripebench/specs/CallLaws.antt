-- How the calls on the stripe meet their contracts: each replies what the library answers, and after a rebuild the stripe is as it was.
-- Assumes nothing.
-- h == the shape    b == the body    s == the stripe before    x == the library's answer
use Rattle.std.specs.Prelude.{◌≡◌, refl, Bool, true, false, List, [], ◌∷◌, ℕ, ◌≤◌, ◌<◌, ltb, length, get_or, take, drop, Result, Ok, Err}
use Rattle.std.proofs.Common.{sym, ap, ap₂, ◌∙◌, subst, arith, lt-ltb}
use Rattle.code.specs.Sum.{pick}
use Rattle.code.specs.Below.{count}
use Rattle.code.specs.Sound.{SoundStripe}
use Rattle.shape.specs.declared.shapes.Shape.{Shape}
use Rattle.shape.specs.declared.refusal.Refusal.{Refusal}
use Rattle.shape.specs.declared.refusal.Refusal.TheVariants.{Mask, Many}
use Rattle.shape.specs.Refusal.{number_of}
use Rattle.shape.specs.Shape.{layout_of}
use Rattle.shape.specs.Mask.{lost_in, above_test}
use Rattle.shape.specs.Call.{answer_number, Answered, Answer}
use Rattle.shape.specs.JudgedCall.{last_number}
use Rattle.shape.specs.CallLaws.{done_refused}
use Rattle.stripe.specs.Write.{Writes}
use Rattle.stripe.specs.WriteNumber.{number_accepted}
use Rattle.stripe.specs.Read.{read_number, read_part}
use Rattle.stripe.specs.ReadLaws.{read_length}
use Rattle.rebuild.specs.Rebuild.{rebuild_number, Rebuilds}
use Rattle.rebuild.specs.RebuildNumber.{Accepted}
use Rattle.rebuild.proofs.RebuildNumberLaws.{accepted_number}
use Rattle.rebuild.proofs.RebuildLaws.{rebuild_gives}
use Rattle.stripebench.specs.declared.replies.Reply.{Reply}
use Rattle.stripebench.specs.declared.replies.Reply.TheVariants.{Done, One}
use Rattle.stripebench.specs.Numbers.{low_first}
use Rattle.stripebench.specs.Ruin.{Ruins}
use Rattle.stripebench.specs.Acting.{write_reply, write_stripe, rebuild_reply, read_reply}
use Rattle.stripebench.specs.Holding.{Ready}
use Rattle.stripebench.specs.Replies.{replied}
use Rattle.stripebench.specs.ReplyLaws.{replied_done, replied_refused, answered_done, answered_refused}

-- ---- write

module _ (h : Shape) (b s : List ℕ) (i j o : ℕ) (is : (i ≡ get_or b 0 0) × (j ≡ get_or b 1 0) × (o ≡ low_first (take 2 (drop 2 b)))) (a : List ℕ) (x : Answer)
    (w : Writes h.n h.r h.s h.e i j o (get_or b 4 0 ∷ []) s a x) where
  there : Writes h.n h.r h.s h.e (get_or b 0 0) (get_or b 1 0) (low_first (take 2 (drop 2 b))) (get_or b 4 0 ∷ []) s a x
  there =
      subst (λ (u : ℕ). Writes h.n h.r h.s h.e u (get_or b 1 0) (low_first (take 2 (drop 2 b))) (get_or b 4 0 ∷ []) s a x) is.0
      (subst (λ (u : ℕ). Writes h.n h.r h.s h.e i u (low_first (take 2 (drop 2 b))) (get_or b 4 0 ∷ []) s a x) is.1
      (subst (λ (u : ℕ). Writes h.n h.r h.s h.e i j u (get_or b 4 0 ∷ []) s a x) is.2 w))

  pub write_done : x ≡ Ok tt → Ok Done ≡ write_reply h b s
  write_done q = answered_done _ _ _ _ Done x there.answer q

  pub write_refused : (y : Refusal) → x ≡ Err y → Err (number_of y) ≡ write_reply h b s
  write_refused y q = answered_refused _ _ _ _ Done x there.answer y q

  pub write_leaves : a ≡ write_stripe h b s
  write_leaves = there.bytes

-- ---- read

module _ (h : Shape) (b s : List ℕ) (i j : ℕ) (is : (i ≡ get_or b 0 0) × (j ≡ get_or b 1 0)) (x : Answer)
    (w : Answered h.n h.r h.s (read_number h.n h.r h.s h.e (length s) i j) x) where
  -- an element that is read has a first byte
  pub read_some : x ≡ Ok tt → (t : List ℕ) → t ≡ read_part h.n h.r h.s h.e i j s → 0 < length t
  read_some q t e = some (sym w.is ∙ ap answer_number q)
    where
      some : read_number h.n h.r h.s h.e (length s) i j ≡ 0 → 0 < length t
      some z =
          omega (
            arith,
            ap length e,
            read_length h.n h.r h.s h.e i j s z,
            (number_accepted h.n h.r h.s h.e (length s) i j 0 0 z).limits.e_low,
          )

  -- what is said of i and j is said of the body
  of_place : (z : Result Reply ℕ) → z ≡ replied (read_number h.n h.r h.s h.e (length s) i j) (One (get_or (read_part h.n h.r h.s h.e i j s) 0 0)) → z ≡ read_reply h b s
  of_place z e =
      e ∙ ap₂ (λ (u v : ℕ). replied (read_number h.n h.r h.s h.e (length s) u v) (One (get_or (read_part h.n h.r h.s h.e u v s) 0 0))) is.0 is.1

  pub read_done : x ≡ Ok tt → (t : List ℕ) → t ≡ read_part h.n h.r h.s h.e i j s → (k : ℕ) → k ≡ get_or t 0 0 → Ok (One k) ≡ read_reply h b s
  read_done q t e k v = of_place _ (ap (λ (u : ℕ). Ok (One u)) (v ∙ ap (λ (u : List ℕ). get_or u 0 0) e) ∙ answered_done _ _ _ _ _ x w q)

  pub read_refused : (y : Refusal) → x ≡ Err y → Err (number_of y) ≡ read_reply h b s
  read_refused y q = of_place _ (answered_refused _ _ _ _ _ x w y q)

-- ---- rebuild

module _ (h : Shape) (b s : List ℕ) (k : Ready h s) (mask : ℕ) (p : mask ≡ low_first b) where
  -- what is said of the mask is said of the body
  of_body : (z : Result Reply ℕ) → z ≡ replied (rebuild_number h.n h.r h.s h.e (length s) mask 0) (One (count 64 (lost_in mask))) → z ≡ rebuild_reply h b s
  of_body z e =
      subst (λ (m : ℕ). z ≡ replied (rebuild_number h.n h.r h.s h.e (length s) m 0) (One (count 64 (lost_in m)))) p e

  abbrev rest : Bool → Bool → ℕ
  rest t u = pick t 7 (pick u 8 0)

  number : (t u : Bool) → above_test mask h.n ≡ t → ltb 2 (count 64 (lost_in mask)) ≡ u
      → rebuild_number h.n h.r h.s h.e (length s) mask 0 ≡ rest t u
  number t u q r =
      last_number h.n h.r h.s h.e h.limits k.good (length s) (rest (above_test mask h.n) (ltb 2 (count 64 (lost_in mask)))) k.size
      ∙ ap₂ rest q r

  -- 7
  pub rebuild_above : above_test mask h.n ≡ true → Err (number_of Mask) ≡ rebuild_reply h b s
  rebuild_above t = of_body _ (replied_refused _ _ Mask (sym (number true (ltb 2 (count 64 (lost_in mask))) t refl)))

  module _ (strips : above_test mask h.n ≡ false) where
    -- 8
    pub rebuild_many : 2 < count 64 (lost_in mask) → Err (number_of Many) ≡ rebuild_reply h b s
    rebuild_many m = of_body _ (replied_refused _ _ Many (sym (number false true strips (lt-ltb 2 (count 64 (lost_in mask)) m))))

    -- 0, and the stripe is back: it is sound, and it agrees with the survivors
    module _ (few : count 64 (lost_in mask) ≤ 2) (bytes : (i : ℕ) → i < length s → get_or s i 0 < 256) (t a : List ℕ) (x : Answer)
        (ruins : Ruins (layout_of h) h.e (lost_in mask) s t) (w : Rebuilds h.n h.r h.s h.e mask t a x) where
      sound : SoundStripe (layout_of h) h.e s
      sound = record { stripe = record { size = k.size; bytes = bytes }; each = k.sound }

      accepted : (len : ℕ) → len ≡ length s → Accepted h.n h.r h.s h.e len mask
      accepted len q = record { limits = h.limits; good = k.good; sized = q ∙ k.size; strips = strips; few = few }

      pub rebuild_back : (x ≡ Ok tt) × (a ≡ s)
      rebuild_back = rebuild_gives h.n h.r h.s h.e mask t (accepted (length t) ruins.kept.size) a x w s sound ruins.kept

      pub rebuild_done : (lost : ℕ) → lost ≡ count 64 (lost_in mask) → Ok (One lost) ≡ rebuild_reply h b s
      rebuild_done lost q =
          of_body _ (ap (λ (k : ℕ). Ok (One k)) q ∙ replied_done _ _ (accepted_number h.n h.r h.s h.e (length s) mask 0 (accepted (length s) refl)))

      pub rebuild_never : (y : Refusal) → x ≡ Err y → {A : Type 0} → A
      rebuild_never y q = done_refused y (sym rebuild_back.0 ∙ q)
