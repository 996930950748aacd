-- What the walker promises and by which laws, in reading order: counts, flags, steps as they are written down, searches, chains, the sweep
-- over all lines, and the steps for the lost parities.
pub mod Tally
pub mod Flags
pub mod Written
pub mod Map
pub mod Search
pub mod Lines
pub mod SearchLaws
pub mod Chain
pub mod Sweep
pub mod Closing
pub mod ClosingLaws
