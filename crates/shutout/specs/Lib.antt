-- Programs that the contracts shut out, on named shapes and stripes, in reading order.
-- Judge, and the walker below it.
pub mod Shape
-- Encode, write, read and scrub.
pub mod CaseB
pub mod Stripe
-- Rebuild, and the one outcome that it has on two stripes.
pub mod Computed
pub mod Chains
pub mod CaseC
pub mod Rebuild
