-- What the contracts of the bench program cite, in reading order.
-- A record: its table, its numbers; the numbers of replies.
pub mod Records
pub mod Numbers
pub mod Replies
-- Lost strips, ruined before they are rebuilt.
pub mod Ruin
pub mod RuinLaws
-- What a record does.
pub mod Acting
pub mod Holding
pub mod Following
pub mod ReplyLaws
pub mod CallLaws
pub mod SetLaws
pub mod ActLaws
