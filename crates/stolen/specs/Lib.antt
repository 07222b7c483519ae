-- The text of a message, and what is promised of it.
pub mod Stealing
pub mod Promises
