-- The last two blocks on bytes are a message of two blocks.
pub mod EndingLaws
