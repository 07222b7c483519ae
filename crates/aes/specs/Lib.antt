-- The public calls under a key, and what is promised of them.
pub mod Calls
pub mod Promises
