-- The laws of the definitions of specs/ that the must-fail edits change.
pub mod Parts
pub mod SofarLaws
pub mod GatherLaws
