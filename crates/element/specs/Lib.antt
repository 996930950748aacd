-- What the functions on bytes promise, and the laws of their loops, in reading order.
pub mod Filled
pub mod FilledLaws
-- Sums of ranges of bytes, by their offsets.
pub mod Gather
pub mod Sofar
-- A run of bytes added to a part.
pub mod Added
pub mod AddedLaws
-- The same by places.
pub mod Placed
pub mod PlacedLaws
