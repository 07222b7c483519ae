-- A single CBC block, and what is promised of it.
pub mod Single
pub mod Promises
