-- LINEAR: the sum of two sound stripes is sound, so a lost set is decided where a sound stripe that is zero at every survivor is zero, and
-- it fails where one of bytes is not. Assumes nothing.
use Rattle.std.specs.Prelude.{ℕ, ◌<◌, ◌≡◌, refl, ◌≢◌, List, Bool, length, get_or}
use Rattle.std.proofs.Common.{sym, ap₂, ◌∙◌, arith}
use Rattle.code.specs.Xor.{◌⊕◌, ⊕_eq, ⊕_of_eq, ⊕_zero}
use Rattle.code.specs.Sum.{sum}
use Rattle.code.specs.SumLaws.{sum_to_nil, sum_to_add, sum_index}
use Rattle.code.specs.Code.{Code, Balanced, Agree, Same, Bytes, Fails, Decided}

-- the stripe of zeros
abbrev pub zeros : ℕ → ℕ
zeros p = 0

-- the sum over a line is additive
pub sum_add : (f g : ℕ → ℕ) (ps : List ℕ) → sum (λ p. f p ⊕ g p) ps ≡ sum f ps ⊕ sum g ps
sum_add f g ps =
    sum_index (λ p. f p ⊕ g p) ps
    ∙ sum_to_add (length ps) (λ i. f (get_or ps i 0)) (λ i. g (get_or ps i 0))
    ∙ ap₂ ◌⊕◌ (sym (sum_index f ps)) (sym (sum_index g ps))

-- the sum of two sound stripes is sound
pub balanced_add : (C : Code) (f g : ℕ → ℕ) → Balanced C f → Balanced C g → Balanced C (λ p. f p ⊕ g p)
balanced_add C f g bf bg = record { zero = λ t lt. sum_add f g (C.line t) ∙ ap₂ ◌⊕◌ (bf.zero t lt) (bg.zero t lt) ∙ ⊕_zero 0 }

-- the stripe of zeros is sound
pub zeros_balanced : (C : Code) → Balanced C zeros
zeros_balanced C = record { zero = λ t lt. sum_index zeros (C.line t) ∙ sum_to_nil (length (C.line t)) (λ i. 0) (λ i li. refl) }

-- decided where every sound stripe that is zero at the survivors is zero
pub decided_of_zeros : (C : Code) (lost : ℕ → Bool) → ((f : ℕ → ℕ) → Balanced C f → Agree C lost f zeros → Same C f zeros) → Decided C lost
decided_of_zeros C lost key =
    record {
      same = λ f g bf bg a. back f g (key (λ p. f p ⊕ g p) (balanced_add C f g bf bg) (record { survivors = λ p lp e. ⊕_of_eq (f p) (g p) (a.survivors p lp e) }));
    }
  where
    back : (f g : ℕ → ℕ) → Same C (λ p. f p ⊕ g p) zeros → Same C f g
    back f g s = record { all = λ p lp. ⊕_eq (f p) (g p) (s.all p lp) }

-- fails where a sound stripe of bytes that is zero at the survivors is not zero at a place
pub fails_of_some : (C : Code) (lost : ℕ → Bool) (f : ℕ → ℕ) → Bytes C f → Balanced C f → Agree C lost f zeros → (p : ℕ) → p < C.places → f p ≢ 0 → Fails C lost
fails_of_some C lost f small sound agree p lp ne =
    record {
      one = f;
      other = zeros;
      one_bytes = small;
      other_bytes = record { small = λ x lx. omega arith };
      one_sound = sound;
      other_sound = zeros_balanced C;
      agree = agree;
      differ = λ s. ne (s.all p lp);
    }
