-- What the contracts of the calls on a stripe cite, in reading order.
-- Lines 1 to 6.
pub mod Opened
pub mod OpenedLaws
-- Encode.
pub mod Encode
pub mod Parity
pub mod ParityLaws
pub mod EncodeLaws
pub mod EncodeDetermined
-- Write and read.
pub mod Write
pub mod WriteLaws
pub mod WriteNumber
pub mod WriteCall
pub mod Read
pub mod ReadLaws
-- Scrub.
pub mod Scrub
pub mod ScrubAnswers
pub mod ScrubTheorems
-- How each call meets its contract.
pub mod Calls
