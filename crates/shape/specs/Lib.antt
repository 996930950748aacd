-- What the contracts of shape cite, in reading order.
-- Refusals, limits, the bound as a test, and what every call answers.
pub mod Refusal
pub mod Limits
pub mod LimitsLaws
pub mod Answers
pub mod GoodTest
pub mod Call
pub mod Shape
pub mod Within
pub mod WithinLaws
pub mod CallLaws
-- The map of diagonals, and the lost set.
pub mod Map
pub mod MapLaws
pub mod Mask
pub mod LostLaws
pub mod MaskLaws
pub mod MaskEnds
-- The pair judge and the judge.
pub mod Pairs
pub mod Judge
pub mod JudgeLaws
pub mod JudgedCall
pub mod JudgeExact
pub mod PairsLaws
