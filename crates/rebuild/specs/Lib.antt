-- What the contracts of rebuild cite, in reading order.
-- The call.
pub mod Rebuild
pub mod RebuildNumber
pub mod LostStrips
-- A step, and a plan of steps, run on the bytes.
pub mod RunTo
pub mod Stepping
pub mod SteppingLaws
pub mod WholePlan
pub mod RunBytes
pub mod Marks
pub mod Running
-- A test of the lines without a mark, and strips cleared.
pub mod Testing
pub mod TestingLaws
pub mod Clear
pub mod ClearLaws
pub mod PlanRun
