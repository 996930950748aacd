-- The laws of the definitions of specs/ that the must-fail edits change.
pub mod TallyLaws
pub mod WrongLaws
pub mod FoundLaws
pub mod ChangedAt
