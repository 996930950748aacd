-- What the contracts of a short write cite, in reading order.
pub mod Written
-- A block of it, block after block, and the whole.
pub mod Patch
