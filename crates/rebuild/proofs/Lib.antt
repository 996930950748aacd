-- The laws of the definitions of specs/ that the must-fail edits change.
pub mod RebuildNumberLaws
pub mod RebuildLaws
pub mod RebuildDetermined
pub mod RebuildMet
pub mod RunLaws
pub mod RunningLaws
pub mod PlanRunLaws
pub mod MendLaws
pub mod Call
