-- Lemmas of the proofs.
pub mod Exit
