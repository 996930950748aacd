-- Laws of the map of diagonals: how it is filled, row by row, and that it draws the layout of its shape. Assumes nothing.
use Rattle.std.specs.Prelude.{ℕ, Bool, ◌+◌, ◌-◌, ◌*◌, ◌%◌, ◌<◌, ◌≤◌, ◌≡◌, ◌⊎◌, List, [], ◌++◌, length, get_or, take, drop, replicate}
use Rattle.std.proofs.Common.{sym, ap, ap₂, ◌∙◌, subst, inl, inr, mod-eq_of_lt, arith, length-take-le}
use Rattle.std.proofs.Math.Decide.{dec_lt}
use Rattle.std.proofs.Math.Nat.{mod-add-mod}
use Rattle.std.proofs.lemmas.List.{length-replicate, get_or-replicate, get_or-drop, get_or-append_right}
use Rattle.std.proofs.Math.ListN.{get_or-eq_default, get_or-append}
use Rattle.code.specs.Drawn.{cell, drawn, Draws}
use Rattle.code.specs.DrawnLaws.{drawn_fair}
use Rattle.code.specs.Layout.{Layout, Fair}
use Rattle.code.specs.Shift.{diagonal, shift}
use Rattle.code.specs.Steps.{Written}
use Rattle.code.specs.Walk.{Walk}
use Rattle.walker.specs.Map.{drawn_by}
use Rattle.walker.specs.declared.map.Map.{Map}
use Rattle.shape.specs.declared.shapes.Shape.{Shape}
use Rattle.shape.specs.Limits.{Limits}
use Rattle.shape.specs.LimitsLaws.{limits_fair}
use Rattle.shape.specs.Shape.{layout_of}
use Rattle.shape.specs.Answers.{Among, front_enough}
use Rattle.shape.specs.Map.{Turned, Filled, Homes, Maps}

-- the map and the homes draw the shift family's layout
pub filled_draws : (g : List (List ℕ)) (h : List ℕ) (n r s : ℕ) → n ≤ 32 → Filled g n r s → Homes h → Draws g h (shift n r s)
filled_draws g h n r s l f o = record { diagonals = f.at; homes = λ d ld. o.at d (omega arith) }

-- so what they draw is fair
pub filled_fair : (k : Shape) {g : List (List ℕ)} {h : List ℕ} → Filled g k.n k.r k.s → Homes h → Fair (drawn g h k.n k.r)
filled_fair k {g} {h} f o =
    drawn_fair g h (layout_of k) (limits_fair k.n k.r k.s _ k.limits) (filled_draws g h k.n k.r k.s k.limits.n_high f o)

-- a shape's map draws by the shape's numbers
pub maps_drawn : {k : Shape} {m : Map} → Maps k m → drawn_by m ≡ drawn m.diagonals m.homes k.n k.r
maps_drawn {k} {m} x = ap₂ (drawn m.diagonals m.homes) x.strips x.rows

-- and so does a walk over it
pub maps_walk : {k : Shape} {m : Map} {lost : ℕ → Bool} {w : ℕ → Written} {c : ℕ} {t : Bool} → Maps k m
    → Walk (drawn_by m) lost w c t → Walk (drawn m.diagonals m.homes k.n k.r) lost w c t
maps_walk {k} {m} {lost} {w} {c} {t} x = subst (λ (L : Layout). Walk L lost w c t) (maps_drawn x)

-- all of 32 from 0 on are the homes
pub turned_homes : (h : List ℕ) → Turned h 0 32 32 → Homes h
turned_homes h t = record { at = λ d l. t.at d l ∙ ap (λ (x : ℕ). x % 32) (omega arith) ∙ mod-eq_of_lt l }

-- every diagonal is the first, turned by the row and by the strip
pub diagonal_turned : (n r s e i j : ℕ) → Limits n r s e → diagonal n r s i j ≡ (diagonal n r s 0 0 + i + j) % n
unfolding diagonal
diagonal_turned n r s e i j l =
    let c : ℕ = r - 1 + s in
    let f : c ≤ n * c = front_enough n r s e l in
    ap (λ (x : ℕ). x % n) (omega arith)
    ∙ sym (mod-add-mod (n * c + 0 + 0 - c) n (i + j))
    ∙ ap (λ (x : ℕ). x % n) (omega arith)

-- zeros, and past their end
zeros : (m j : ℕ) → ◌≡◌ {A = ℕ} (get_or (replicate m 0) j 0) 0
zeros m j = go (dec_lt j m)
  where
    go : Dec (j < m) → ◌≡◌ {A = ℕ} (get_or (replicate m 0) j 0) 0
    go (yes l) = get_or-replicate {A = ℕ} m j 0 0 l
    go (no l) = get_or-eq_default {A = ℕ} (replicate m 0) 0 (omega (arith, length-replicate {A = ℕ} m 0))

-- the number after the i-th from d on
pub after : (d n i x y : ℕ) → x ≡ (d + i) % n → Among n ((x + 1) % n) y → Among n ((d + (i + 1)) % n) y
after d n i x y e a =
    record {
      is = a.is ∙ ap (λ (z : ℕ). (z + 1) % n) e ∙ mod-add-mod (d + i) n 1 ∙ ap (λ (z : ℕ). z % n) (omega arith);
      below = a.below;
    }

-- the n diagonals from d on are set, and zeros stand after them
pub turned_whole : (t : List ℕ) (d n : ℕ) → n ≤ 32 → length t ≡ length (take n (replicate {A = ℕ} 32 0))
    → ((j : ℕ) → j < length t → get_or t j 0 ≡ (d + j) % n) → Turned (t ++ drop n (replicate 32 0)) d n n
turned_whole t d n le l h =
    record {
      at = λ j lj. get_or-append t (drop n (replicate 32 0)) 0 j (omega (arith, long)) ∙ h j (omega (arith, long));
      beyond = λ j lj.
          get_or-append_right t (drop n (replicate 32 0)) n j 0 long lj
          ∙ get_or-drop n (replicate 32 0) (j - n) 0
          ∙ zeros 32 (n + (j - n));
    }
  where
    long : length t ≡ n
    long = l ∙ length-take-le n (replicate {A = ℕ} 32 0) (omega (arith, length-replicate {A = ℕ} 32 0))

-- the diagonals from the i-th after f on
pub turned_from : (t : List ℕ) (f i d n : ℕ) → d ≡ (f + i) % n → Turned t d n n → Turned t (f + i) n n
turned_from t f i d n q p =
    record { at = λ j lj. p.at j lj ∙ ap (λ (x : ℕ). (x + j) % n) q ∙ mod-add-mod (f + i) n j; beyond = p.beyond }

-- the r rows are set, each the one above it turned by one, and rows of zeros stand after them
pub rows_whole : (g : List (List ℕ)) (n r s e d : ℕ) → Limits n r s e → d ≡ diagonal n r s 0 0
    → length g ≡ length (take r (replicate 32 (replicate {A = ℕ} 32 0))) → ((i : ℕ) → i < length g → Turned (get_or g i []) (d + i) n n)
    → Filled (g ++ drop r (replicate 32 (replicate {A = ℕ} 32 0))) n r s
rows_whole g n r s e d l q w rows =
    record {
      at = λ i j li lj.
          ap (λ (v : List ℕ). get_or v j 0) (get_or-append g (drop r blank) [] i (omega (arith, long)))
          ∙ (rows i (omega (arith, long))).at j lj
          ∙ ap (λ (z : ℕ). (z + i + j) % n) q
          ∙ sym (diagonal_turned n r s e i j l);
      beside = λ i j z. go i j z (dec_lt i r);
    }
  where
    blank : List (List ℕ)
    blank = replicate 32 (replicate {A = ℕ} 32 0)

    long : length g ≡ r
    long = w ∙ length-take-le r blank (omega (arith, l.r_high, length-replicate {A = List ℕ} 32 (replicate 32 0)))

    zero : (i j : ℕ) → Dec (i < 32) → cell blank i j ≡ 0
    zero i j (yes h) = ap (λ (v : List ℕ). get_or v j 0) (get_or-replicate {A = List ℕ} 32 i (replicate 32 0) [] h) ∙ zeros 32 j
    zero i j (no h) =
        let past : length blank ≤ i = omega (arith, length-replicate {A = List ℕ} 32 (replicate 32 0)) in
        ap (λ (v : List ℕ). get_or v j 0) (get_or-eq_default {A = List ℕ} blank [] past)

    go : (i j : ℕ) → (r ≤ i) ⊎ (n ≤ j) → Dec (i < r) → cell (g ++ drop r blank) i j ≡ 0
    go i j z (no h) =
        ap (λ (v : List ℕ). get_or v j 0)
        (get_or-append_right g (drop r blank) r i [] long (omega arith) ∙ get_or-drop r blank (i - r) [])
        ∙ zero (r + (i - r)) j (dec_lt (r + (i - r)) 32)
    go i j (inl z) (yes h) = absurd (omega arith)
    go i j (inr z) (yes h) =
        ap (λ (v : List ℕ). get_or v j 0) (get_or-append g (drop r blank) [] i (omega (arith, long)))
        ∙ (rows i (omega (arith, long))).beyond j z
