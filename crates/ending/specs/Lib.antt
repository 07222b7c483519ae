-- The last two blocks of a message.
pub mod Inner
