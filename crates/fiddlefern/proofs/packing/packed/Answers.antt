-- `fiddlefern::packing::packed` meets its contract: the three numbers are small. Assumes nothing.
use Rattle.std.proofs.Common.{◌≡◌, ℕ, Option, unwrap_or, ap, ◌∙◌, arith}
use Rattle.shape.specs.Refusal.{refusal_most}
use Rattle.fiddlefern.proofs.packing.packed.Goals as goal

-- the pair that is packed is the refusal's
pair_is : (o p : Option (ℕ × ℕ)) (q : ℕ × ℕ) → q ≡ unwrap_or o (0, 0) → o ≡ p → (q.0 ≡ (unwrap_or p (0, 0)).0) × (q.1 ≡ (unwrap_or p (0, 0)).1)
pair_is o p q e f =
    let g : q ≡ unwrap_or p (0, 0) = e ∙ ap (λ (z : Option (ℕ × ℕ)). unwrap_or z (0, 0)) f in
    (ap (λ (z : ℕ × ℕ). z.0) g, ap (λ (z : ℕ × ℕ). z.1) g)

pub overflow_add-result : goal.overflow_add-result
overflow_add-result c =
    omega (arith, refusal_most c.args.x, pair_is _ _ _ c.unwrap_or-lower.ensures c.pair.ensures)

pub overflow_add-result-2 : goal.overflow_add-result-2
overflow_add-result-2 c =
    omega (arith, refusal_most c.args.x, pair_is _ _ _ c.unwrap_or-lower.ensures c.pair.ensures)
