-- Programs that the contract of rebuild shuts out: applied to what such a program would leave and answer on a named stripe, it is absurd.
-- Assumes nothing.
-- whole, lost, chains == three chains at n=8, r=3, s=5 (Chains)    damaged, cleared, strips == case C with U(4) changed (CaseC)
-- case_b == case B of 01 (CaseB)
use Rattle.std.specs.Prelude.{◌≡◌, refl, List, [], ◌∷◌, ℕ, get_or, take, replicate, Err, Ok}
use Rattle.std.proofs.Common.{sym, ap, arith}
use Rattle.code.specs.Below.{count}
use Rattle.code.specs.Bound.{q, pr, searched}
use Rattle.shape.specs.declared.refusal.Refusal.{Refusal}
use Rattle.shape.specs.declared.refusal.Refusal.TheVariants.{Mask, Many, NoSound}
use Rattle.shape.specs.CallLaws.{done_refused}
use Rattle.rebuild.specs.Rebuild.{Rebuilds}
use Rattle.shutout.specs.CaseB.{case_b}
use Rattle.shutout.specs.Chains.{chains, whole, lost, chains_outcome}
use Rattle.shutout.specs.CaseC.{strips, damaged, cleared, case_c_outcome}

-- ---- three chains: strips 0 and 4 of n=8, r=3, s=5 lost, FF in them

-- an outcome has no other byte p
another_byte : (p : ℕ) (after : List ℕ) → (get_or after p 0 ≡ get_or whole p 0 → ⊥) → Rebuilds 8 3 5 1 17 lost after (Ok tt) → ⊥
another_byte p after ne w = ne (ap (λ (s : List ℕ). get_or s p 0) (chains_outcome after (Ok tt) w).1)

-- a rebuild that does nothing
pub rebuild_idle : Rebuilds 8 3 5 1 17 lost lost (Ok tt) → ⊥
unfolding lost whole chains
rebuild_idle = another_byte 0 lost (λ e. omega arith)

-- one that mends the first lost strip and stops
pub rebuild_first_strip : Rebuilds 8 3 5 1 17 lost (chains (0x01 ∷ 0x39 ∷ 0x71 ∷ 0xC5 ∷ []) (0xFF ∷ 0xFF ∷ 0xFF ∷ 0xFF ∷ [])) (Ok tt) → ⊥
unfolding lost whole chains
rebuild_first_strip = another_byte 16 _ (λ e. omega arith)

-- one that mends the first chain, the two elements of row 0, and stops
pub rebuild_first_chain : Rebuilds 8 3 5 1 17 lost (chains (0x01 ∷ 0xFF ∷ 0xFF ∷ 0xFF ∷ []) (0x1D ∷ 0xFF ∷ 0xFF ∷ 0xFF ∷ [])) (Ok tt) → ⊥
unfolding lost whole chains
rebuild_first_chain = another_byte 1 _ (λ e. omega arith)

-- one that follows only chains that touch U(0) or U(4): none does, and the two are all that it builds
pub rebuild_parity_chains : Rebuilds 8 3 5 1 17 lost (chains (0xFF ∷ 0xFF ∷ 0xFF ∷ 0xC5 ∷ []) (0xFF ∷ 0xFF ∷ 0xFF ∷ 0x29 ∷ [])) (Ok tt) → ⊥
unfolding lost whole chains
rebuild_parity_chains = another_byte 0 _ (λ e. omega arith)

-- one that mends the data and leaves the lost U
pub rebuild_data_alone : Rebuilds 8 3 5 1 17 lost (chains (0x01 ∷ 0x39 ∷ 0x71 ∷ 0xFF ∷ []) (0x1D ∷ 0x55 ∷ 0x8D ∷ 0xFF ∷ [])) (Ok tt) → ⊥
unfolding lost whole chains
rebuild_data_alone = another_byte 3 _ (λ e. omega arith)

-- one that fills what the first chain did not give with zero
pub rebuild_zero_rest : Rebuilds 8 3 5 1 17 lost (chains (0x01 ∷ 0 ∷ 0 ∷ 0 ∷ []) (0x1D ∷ 0 ∷ 0 ∷ 0 ∷ [])) (Ok tt) → ⊥
unfolding lost whole chains
rebuild_zero_rest = another_byte 1 _ (λ e. omega arith)

-- one that fills all that is lost with zero
pub rebuild_zero_lost : Rebuilds 8 3 5 1 17 lost (chains (0 ∷ 0 ∷ 0 ∷ 0 ∷ []) (0 ∷ 0 ∷ 0 ∷ 0 ∷ [])) (Ok tt) → ⊥
unfolding lost whole chains
rebuild_zero_lost = another_byte 0 _ (λ e. omega arith)

-- one that makes the stripe sound, and loses the survivors
pub rebuild_zero_all : Rebuilds 8 3 5 1 17 lost (replicate 35 0) (Ok tt) → ⊥
unfolding lost whole chains
rebuild_zero_all = another_byte 4 _ (λ e. omega arith)

-- one that refuses all; so one that answers 10 there, with the lost strips zero or with anything
pub rebuild_refuses : (y : Refusal) (after : List ℕ) → Rebuilds 8 3 5 1 17 lost after (Err y) → ⊥
rebuild_refuses y after w = done_refused y (sym (chains_outcome after (Err y) w).0)

-- ---- case C with U(4) changed, strips 0 and 1 lost: 10, and the two are zero

-- a rebuild that answers 0 to all
pub rebuild_answers_all : (after : List ℕ) → Rebuilds 5 2 2 1 3 damaged after (Ok tt) → ⊥
rebuild_answers_all after w = done_refused NoSound (case_c_outcome after (Ok tt) w).0

-- an outcome has no other byte p here either
another_ten : (p : ℕ) (after : List ℕ) → (get_or after p 0 ≡ get_or cleared p 0 → ⊥) → Rebuilds 5 2 2 1 3 damaged after (Err NoSound) → ⊥
another_ten p after ne w = ne (ap (λ (s : List ℕ). get_or s p 0) (case_c_outcome after (Err NoSound) w).1)

-- one that leaves the old bytes in the lost strips
pub ten_idle : Rebuilds 5 2 2 1 3 damaged damaged (Err NoSound) → ⊥
unfolding damaged cleared strips
ten_idle = another_ten 0 damaged (λ e. omega arith)

-- one that leaves there what the lines gave
pub ten_built : Rebuilds 5 2 2 1 3 damaged (strips (0x01 ∷ 0x20 ∷ 0x88 ∷ 0x02 ∷ 0x40 ∷ 0x13 ∷ [])) (Err NoSound) → ⊥
unfolding cleared strips
ten_built = another_ten 0 _ (λ e. omega arith)

-- one that clears the first lost strip alone
pub ten_first_strip : Rebuilds 5 2 2 1 3 damaged (strips (0 ∷ 0 ∷ 0 ∷ 0xFF ∷ 0xFF ∷ 0xFF ∷ [])) (Err NoSound) → ⊥
unfolding cleared strips
ten_first_strip = another_ten 3 _ (λ e. omega arith)

-- one that clears the survivors too
pub ten_zero_all : Rebuilds 5 2 2 1 3 damaged (replicate 17 0) (Err NoSound) → ⊥
unfolding cleared strips
ten_zero_all = another_ten 6 _ (λ e. omega arith)

-- ---- masks, and the order of the numbers

-- one that takes three lost strips
pub three_done : (after : List ℕ) → Rebuilds 5 2 2 1 7 case_b after (Ok tt) → ⊥
unfolding case_b count q pr searched
three_done after w = other w.answer.is
  where
    other : ◌≡◌ {A = ℕ} 0 8 → ⊥
    other e = omega arith

-- one that refuses them and changes the stripe
pub three_cleared : Rebuilds 5 2 2 1 7 case_b (replicate 17 0) (Err Many) → ⊥
unfolding case_b
three_cleared w = other (ap (λ (s : List ℕ). get_or s 0 0) (w.refused Many refl (λ e. ten e)))
  where
    ten : Many ≡ NoSound → ⊥
    ten e = let z : ◌≡◌ {A = ℕ} 8 10 = cc in omega arith

    other : ◌≡◌ {A = ℕ} 0 0x01 → ⊥
    other e = omega arith

-- one that overlooks a one above bit n
pub above_done : (after : List ℕ) → Rebuilds 5 2 2 1 64 case_b after (Ok tt) → ⊥
unfolding case_b q pr searched
above_done after w = other w.answer.is
  where
    other : ◌≡◌ {A = ℕ} 0 7 → ⊥
    other e = omega arith

-- one that asks 7 before 6: bit 20 is above n, and the buffer is a byte short
pub mask_before_length : (after : List ℕ) → Rebuilds 8 3 5 1 1048576 (take 34 whole) after (Err Mask) → ⊥
unfolding whole chains q pr searched
mask_before_length after w = other w.answer.is
  where
    other : ◌≡◌ {A = ℕ} 7 6 → ⊥
    other e = omega arith

-- one that asks 8 before 7: bits 0, 1, 2 and 20
pub many_before_mask : (after : List ℕ) → Rebuilds 8 3 5 1 1048583 whole after (Err Many) → ⊥
unfolding whole chains q pr searched
many_before_mask after w = other w.answer.is
  where
    other : ◌≡◌ {A = ℕ} 8 7 → ⊥
    other e = omega arith
