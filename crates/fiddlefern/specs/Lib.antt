-- What the contracts of the C boundary cite.
pub mod Packed
pub mod ScrubSmall
pub mod PackedLaws
pub mod Exports
