-- The laws of the definitions of specs/ that the must-fail edits change.
pub mod ShiftLaws
pub mod Positions
pub mod Failing
pub mod Exact
pub mod Rows
