-- Laws of sums, tables and tests. Assumes nothing.
use Rattle.std.specs.Prelude.{◌≡◌, refl, Bool, true, false, ◌≢◌, ◌⊎◌, List, [], ◌∷◌, ℕ, zero, suc, ◌+◌, ◌-◌, ◌<◌, eqb, length, get_or}
use Rattle.std.proofs.Common.{sym, ap, ap₂, ◌∙◌, subst, inl, inr, add-one, eq-or-lt_of_le, not-suc-le-zero, arith, eq-eqb, ne_eqb}
use Rattle.code.specs.Xor.{◌⊕◌, ⊕_assoc, ⊕_comm, ⊕_zero, zero_⊕, ⊕_byte, ⊕_swap}
use Rattle.code.specs.Sum.{sum, sum_to, table, only}

-- ---- sums over 0 .. n - 1

pub sum_to_none : (f : ℕ → ℕ) → sum_to 0 f ≡ 0
unfolding sum_to
sum_to_none f = refl

pub sum_to_more : (n : ℕ) (f : ℕ → ℕ) → sum_to (n + 1) f ≡ sum_to n f ⊕ f n
unfolding sum_to
sum_to_more n f = ap (λ (m : ℕ). sum_to m f) (add-one n)

sum_to_next : (m n : ℕ) (f : ℕ → ℕ) → m ≡ n + 1 → sum_to m f ≡ sum_to n f ⊕ f n
sum_to_next m n f e = ap (λ (x : ℕ). sum_to x f) e ∙ sum_to_more n f

-- four terms at a time, as the code adds them
pub sum_to_four : (n : ℕ) (f : ℕ → ℕ) → sum_to (n + 4) f ≡ (((sum_to n f ⊕ f n) ⊕ f (n + 1)) ⊕ f (n + 2)) ⊕ f (n + 3)
sum_to_four n f =
    sum_to_next (n + 4) (n + 3) f (omega arith)
    ∙ ap (λ (x : ℕ). x ⊕ f (n + 3)) (sum_to_next (n + 3) (n + 2) f (omega arith)
    ∙ ap (λ (x : ℕ). x ⊕ f (n + 2)) (sum_to_next (n + 2) (n + 1) f (omega arith)
    ∙ ap (λ (x : ℕ). x ⊕ f (n + 1)) (sum_to_more n f)))

pub sum_to_ext : (n : ℕ) (f g : ℕ → ℕ) → ((i : ℕ) → i < n → f i ≡ g i) → sum_to n f ≡ sum_to n g
unfolding sum_to
sum_to_ext zero f g h = refl
sum_to_ext (suc n) f g h = ap₂ ◌⊕◌ (sum_to_ext n f g (λ i l. h i (omega arith))) (h n (omega arith))

pub sum_to_nil : (n : ℕ) (f : ℕ → ℕ) → ((i : ℕ) → i < n → f i ≡ 0) → sum_to n f ≡ 0
unfolding sum_to
sum_to_nil zero f h = refl
sum_to_nil (suc n) f h = ap₂ ◌⊕◌ (sum_to_nil n f (λ i l. h i (omega arith))) (h n (omega arith)) ∙ ⊕_zero 0

pub sum_to_add : (n : ℕ) (f g : ℕ → ℕ) → sum_to n (λ i. f i ⊕ g i) ≡ sum_to n f ⊕ sum_to n g
unfolding sum_to
sum_to_add zero f g = sym (⊕_zero 0)
sum_to_add (suc n) f g = ap (λ (x : ℕ). x ⊕ (f n ⊕ g n)) (sum_to_add n f g) ∙ ⊕_swap (sum_to n f) (sum_to n g) (f n) (g n)

pub sum_to_byte : (n : ℕ) (f : ℕ → ℕ) → ((i : ℕ) → i < n → f i < 256) → sum_to n f < 256
unfolding sum_to
sum_to_byte zero f h = omega arith
sum_to_byte (suc n) f h = ⊕_byte (sum_to n f) (f n) (sum_to_byte n f (λ i l. h i (omega arith))) (h n (omega arith))

-- one term at most is not 0
pub sum_to_one : (n : ℕ) (f : ℕ → ℕ) (p : ℕ) → p < n → ((i : ℕ) → i < n → i ≢ p → f i ≡ 0) → sum_to n f ≡ f p
unfolding sum_to
sum_to_one zero f p l h = absurd (not-suc-le-zero l)
sum_to_one (suc n) f p l h = go (eq-or-lt_of_le l) (λ k. sum_to_one n f p k (λ i li. h i (omega arith)))
  where
    go : (suc p ≡ suc n) ⊎ (suc p < suc n) → (p < n → sum_to n f ≡ f p) → sum_to n f ⊕ f n ≡ f p
    go (inl e) ih = ap₂ ◌⊕◌ (sum_to_nil n f (λ i li. h i (omega arith) (omega arith))) (ap f (omega arith)) ∙ zero_⊕ (f p)
    go (inr k) ih = ap₂ ◌⊕◌ (ih (omega arith)) (h n (omega arith) (omega arith)) ∙ ⊕_zero (f p)

-- two terms at most are not 0
pub sum_to_two : (n : ℕ) (f : ℕ → ℕ) (p q : ℕ) → p < q → q < n → ((i : ℕ) → i < n → i ≢ p → i ≢ q → f i ≡ 0) → sum_to n f ≡ f p ⊕ f q
unfolding sum_to
sum_to_two zero f p q l m h = absurd (not-suc-le-zero m)
sum_to_two (suc n) f p q l m h = go (eq-or-lt_of_le m) (λ k. sum_to_two n f p q l k (λ i li. h i (omega arith)))
  where
    go : (suc q ≡ suc n) ⊎ (suc q < suc n) → (q < n → sum_to n f ≡ f p ⊕ f q) → sum_to n f ⊕ f n ≡ f p ⊕ f q
    go (inl e) ih = ap₂ ◌⊕◌ (sum_to_one n f p (omega arith) (λ i li ne. h i (omega arith) ne (omega arith))) (ap f (omega arith))
    go (inr k) ih = ap₂ ◌⊕◌ (ih (omega arith)) (h n (omega arith) (omega arith) (omega arith)) ∙ ⊕_zero (f p ⊕ f q)

-- one term changed by b
pub sum_to_change : (n : ℕ) (f g : ℕ → ℕ) (b j : ℕ) → j < n → g j ≡ f j ⊕ b → ((i : ℕ) → i < n → i ≢ j → g i ≡ f i) → sum_to n g ≡ sum_to n f ⊕ b
unfolding sum_to
sum_to_change zero f g b j l e h = absurd (not-suc-le-zero l)
sum_to_change (suc n) f g b j l e h = go (eq-or-lt_of_le l) (λ k. sum_to_change n f g b j k e (λ i li. h i (omega arith)))
  where
    go : (suc j ≡ suc n) ⊎ (suc j < suc n) → (j < n → sum_to n g ≡ sum_to n f ⊕ b) → sum_to n g ⊕ g n ≡ (sum_to n f ⊕ f n) ⊕ b
    go (inl q) ih =
        let z : j ≡ n = omega arith in
        ap₂ ◌⊕◌ (sum_to_ext n g f (λ i li. h i (omega arith) (omega arith))) (subst (λ (x : ℕ). g x ≡ f x ⊕ b) z e) ∙ sym (⊕_assoc (sum_to n f) (f n) b)
    go (inr k) ih =
        ap₂ ◌⊕◌ (ih (omega arith)) (h n (omega arith) (omega arith))
        ∙ ⊕_assoc (sum_to n f) b (f n)
        ∙ ap (λ (x : ℕ). sum_to n f ⊕ x) (⊕_comm b (f n))
        ∙ sym (⊕_assoc (sum_to n f) (f n) b)

-- the first term apart
sum_to_front : (n : ℕ) (f : ℕ → ℕ) → sum_to (suc n) f ≡ f 0 ⊕ sum_to n (λ i. f (suc i))
unfolding sum_to
sum_to_front zero f = ⊕_comm 0 (f 0)
sum_to_front (suc n) f = ap (λ (x : ℕ). x ⊕ f (suc n)) (sum_to_front n f) ∙ ⊕_assoc (f 0) (sum_to n (λ i. f (suc i))) (f (suc n))

-- the order of a sum turned round
pub sum_to_reverse : (n : ℕ) (f : ℕ → ℕ) → sum_to n f ≡ sum_to n (λ i. f (n - 1 - i))
unfolding sum_to
sum_to_reverse zero f = refl
sum_to_reverse (suc n) f =
    ⊕_comm (sum_to n f) (f n)
    ∙ ap₂ ◌⊕◌ (ap f (omega arith)) (sum_to_reverse n f ∙ sum_to_ext n (λ i. f (n - 1 - i)) (λ i. f (suc n - 1 - suc i)) (λ i li. ap f (omega arith)))
    ∙ sym (sum_to_front n (λ i. f (suc n - 1 - i)))

-- ---- sums over a list

-- the list read by its indices
pub sum_index : (f : ℕ → ℕ) (ps : List ℕ) → sum f ps ≡ sum_to (length ps) (λ i. f (get_or ps i 0))
unfolding sum sum_to
sum_index f [] = refl
sum_index f (p ∷ ps) = ap (λ (x : ℕ). f p ⊕ x) (sum_index f ps) ∙ sym (sum_to_front (length ps) (λ i. f (get_or (p ∷ ps) i 0)))

-- two lists as long, with equal terms
pub sum_same : (f g : ℕ → ℕ) (ps qs : List ℕ) → length ps ≡ length qs → ((i : ℕ) → i < length qs → f (get_or ps i 0) ≡ g (get_or qs i 0)) → sum f ps ≡ sum g qs
sum_same f g ps qs l h =
    sum_index f ps
    ∙ ap (λ (n : ℕ). sum_to n (λ i. f (get_or ps i 0))) l
    ∙ sum_to_ext (length qs) (λ i. f (get_or ps i 0)) (λ i. g (get_or qs i 0)) h
    ∙ sym (sum_index g qs)

pub sum_ext : (f g : ℕ → ℕ) (ps : List ℕ) → ((i : ℕ) → i < length ps → f (get_or ps i 0) ≡ g (get_or ps i 0)) → sum f ps ≡ sum g ps
sum_ext f g ps h = sum_same f g ps ps refl h

-- ---- tables

pub length_table : (n : ℕ) (g : ℕ → ℕ) → length (table n g) ≡ n
unfolding table
length_table zero g = refl
length_table (suc n) g = ap suc (length_table n (λ i. g (suc i)))

pub get_or_table : (n : ℕ) (g : ℕ → ℕ) (d i : ℕ) → i < n → get_or (table n g) i d ≡ g i
unfolding table
get_or_table zero g d i l = absurd (not-suc-le-zero l)
get_or_table (suc n) g d zero l = refl
get_or_table (suc n) g d (suc i) l = get_or_table n (λ j. g (suc j)) d i (omega arith)

pub table_ext : (n : ℕ) (f g : ℕ → ℕ) → ((i : ℕ) → i < n → f i ≡ g i) → table n f ≡ table n g
unfolding table
table_ext zero f g h = refl
table_ext (suc n) f g h = ap₂ ◌∷◌ (h 0 (omega arith)) (table_ext n (λ i. f (suc i)) (λ i. g (suc i)) (λ i l. h (suc i) (omega arith)))

pub sum_table : (f g : ℕ → ℕ) (n : ℕ) → sum f (table n g) ≡ sum_to n (λ i. f (g i))
unfolding table sum sum_to
sum_table f g zero = refl
sum_table f g (suc n) = ap (λ (x : ℕ). f (g 0) ⊕ x) (sum_table f (λ i. g (suc i)) n) ∙ sym (sum_to_front n (λ i. f (g i)))

-- ---- tests

pub only_yes : (x y v : ℕ) → x ≡ y → only (eqb x y) v ≡ v
only_yes x y v e = ap (λ (t : Bool). only t v) (eq-eqb x y e)

pub only_no : (x y v : ℕ) → x ≢ y → only (eqb x y) v ≡ 0
only_no x y v e = ap (λ (t : Bool). only t v) (ne_eqb x y e)

pub only_zero : (t : Bool) (v : ℕ) → v ≡ 0 → only t v ≡ 0
only_zero true v e = e
only_zero false v e = refl

pub only_byte : (t : Bool) (v : ℕ) → v < 256 → only t v < 256
only_byte true v h = h
only_byte false v h = omega arith

-- a test that is both true and false
pub clash : {A : Type 0} → false ≡ true → A
clash e = absurd (let z : ◌≡◌ {A = ℕ} 0 1 = cc in omega arith)
