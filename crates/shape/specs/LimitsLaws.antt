-- Laws of the limits: the numbers 1 to 4 are given exactly when their lines hold, within's answer is determined, and within them the layout is fair. Assumes nothing.
use Rattle.std.specs.Prelude.{◌≡◌, refl, Bool, true, false, ℕ, ◌-◌, ◌≤◌, ltb}
use Rattle.std.proofs.Common.{inl, inr, arith, lt-ltb, le-ltb, ltb-true, ltb-false}
use Rattle.code.specs.Layout.{Fair}
use Rattle.code.specs.Shift as family
use Rattle.code.specs.Sum.{pick}
use Rattle.code.proofs.ShiftLaws.{shift_fair}
use Rattle.shape.specs.Limits.{Limits, outside, Outside, limit_number, FirstOutside, strips, rows, shift, element, none}

-- within the limits every row meets every diagonal once
pub limits_fair : (n r s e : ℕ) → Limits n r s e → Fair (family.shift n r s)
limits_fair n r s e l = shift_fair n r s (omega (arith, l.n_low))

module _ (low high x : ℕ) where
  pub outside_yes : Outside low high x → outside low high x ≡ true
  outside_yes (inl l) = simp (lt-ltb x low l)
  outside_yes (inr l) = rw (lt-ltb high x l) (go (ltb x low))
    where
      go : (t : Bool) → pick t true true ≡ true
      go true = refl
      go false = refl

  pub outside_no : low ≤ x → x ≤ high → outside low high x ≡ false
  outside_no a b = simp (le-ltb x low a, le-ltb high x b)

  pub outside_true : outside low high x ≡ true → Outside low high x
  outside_true = go (ltb x low) refl
    where
      go : (t : Bool) → ltb x low ≡ t → pick t true (ltb high x) ≡ true → Outside low high x
      go true e h = inl (ltb-true x low e)
      go false e h = inr (ltb-true high x h)

  pub outside_false : outside low high x ≡ false → (low ≤ x) × (x ≤ high)
  outside_false = go (ltb x low) refl
    where
      go : (t : Bool) → ltb x low ≡ t → pick t true (ltb high x) ≡ false → (low ≤ x) × (x ≤ high)
      go true e h = let z : ◌≡◌ {A = ℕ} 0 1 = cc in absurd (omega arith)
      go false e h = (ltb-false x low e, ltb-false high x h)

module _ (n r s e rest : ℕ) where
  -- the number that is given says which line holds first
  pub first_outside : FirstOutside n r s e rest (limit_number n r s e rest)
  first_outside = go (outside 3 32 n) (outside 1 32 r) (outside 1 (n - 1) s) (outside 1 4096 e) refl refl refl refl
    where
      go : (a b c d : Bool)
          → outside 3 32 n ≡ a → outside 1 32 r ≡ b → outside 1 (n - 1) s ≡ c → outside 1 4096 e ≡ d
          → FirstOutside n r s e rest (pick a 1 (pick b 2 (pick c 3 (pick d 4 rest))))
      go true b c d p q v w = strips (outside_true 3 32 n p)
      go false true c d p q v w = let x = outside_false 3 32 n p in rows x.0 x.1 (outside_true 1 32 r q)
      go false false true d p q v w =
          let x = outside_false 3 32 n p in
          let y = outside_false 1 32 r q in
          shift x.0 x.1 y.0 y.1 (outside_true 1 (n - 1) s v)
      go false false false true p q v w =
          let x = outside_false 3 32 n p in
          let y = outside_false 1 32 r q in
          let z = outside_false 1 (n - 1) s v in
          element x.0 x.1 y.0 y.1 z.0 (omega arith) (outside_true 1 4096 e w)
      go false false false false p q v w =
          let x = outside_false 3 32 n p in
          let y = outside_false 1 32 r q in
          let z = outside_false 1 (n - 1) s v in
          let t = outside_false 1 4096 e w in
          none
          (record {
            n_low = x.0;
            n_high = x.1;
            r_low = y.0;
            r_high = y.1;
            s_low = z.0;
            s_high = omega arith;
            e_low = t.0;
            e_high = t.1;
          })

  -- and the line that holds first gives its number
  pub outside_number : {k : ℕ} → FirstOutside n r s e rest k → limit_number n r s e rest ≡ k
  outside_number (strips o) = simp (outside_yes 3 32 n o)
  outside_number (rows a b o) = simp (outside_no 3 32 n a b, outside_yes 1 32 r o)
  outside_number (shift a b c d o) = simp (outside_no 3 32 n a b, outside_no 1 32 r c d, outside_yes 1 (n - 1) s o)
  outside_number (element a b c d f g o) =
      simp (outside_no 3 32 n a b, outside_no 1 32 r c d, outside_no 1 (n - 1) s f (omega arith), outside_yes 1 4096 e o)
  outside_number (none l) =
      simp (
        outside_no 3 32 n l.n_low l.n_high,
        outside_no 1 32 r l.r_low l.r_high,
        outside_no 1 (n - 1) s l.s_low (omega arith),
        outside_no 1 4096 e l.e_low l.e_high,
      )

  -- within the limits the number is the rest's
  pub limits_number : Limits n r s e → limit_number n r s e rest ≡ rest
  limits_number l = outside_number (none l)

module _ (n r s e : ℕ) where
  -- number 0 is given within the limits only
  pub zero_limits : limit_number n r s e 0 ≡ 0 → Limits n r s e
  zero_limits = go (first_outside n r s e 0)
    where
      go : {k : ℕ} → FirstOutside n r s e 0 k → k ≡ 0 → Limits n r s e
      go (strips o) z = absurd (omega arith)
      go (rows a b o) z = absurd (omega arith)
      go (shift a b c d o) z = absurd (omega arith)
      go (element a b c d f g o) z = absurd (omega arith)
      go (none l) z = l

  -- and any other number is one of 1 to 4, whatever the rest is
  pub broken_number : (rest : ℕ) → 1 ≤ limit_number n r s e 0 → (limit_number n r s e rest ≡ limit_number n r s e 0) × (limit_number n r s e 0 ≤ 4)
  broken_number rest = go (first_outside n r s e 0)
    where
      go : {k : ℕ} → FirstOutside n r s e 0 k → 1 ≤ k → (limit_number n r s e rest ≡ k) × (k ≤ 4)
      go (strips o) h = (outside_number n r s e rest (strips o), omega arith)
      go (rows a b o) h = (outside_number n r s e rest (rows a b o), omega arith)
      go (shift a b c d o) h = (outside_number n r s e rest (shift a b c d o), omega arith)
      go (element a b c d f g o) h = (outside_number n r s e rest (element a b c d f g o), omega arith)
      go (none l) h = absurd (omega arith)
