-- Messages over any two block functions: what becomes of them, undoing, plain CBC, recovery; and the last two blocks as
-- a message.
pub mod SplitLaws
pub mod BlockLaws
pub mod TailLaws
pub mod PartLaws
pub mod WorkedLaws
pub mod UndoLaws
pub mod ExchangeLaws
pub mod RecoveryLaws
pub mod FrontLaws
pub mod RestLaws
