-- What the contracts on lines cite, in reading order.
-- A line listed.
pub mod Listed
pub mod ListedLaws
pub mod ListedCount
-- An element built from its line.
pub mod Others
pub mod OthersLaws
pub mod BuildLaws
-- A line tested.
pub mod Unbalanced
pub mod TestingLaws
