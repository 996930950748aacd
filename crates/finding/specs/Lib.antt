-- What the contracts of a finding cite, in reading order.
pub mod Found
-- Wrong lines counted, and the first of them.
pub mod Tally
-- One changed element.
pub mod LinesOf
pub mod ChangedAt
