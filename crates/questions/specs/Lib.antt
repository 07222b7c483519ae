-- The questions that the calls ask before work, and what their numbers say.
pub mod Questions
pub mod Refusals
pub mod Promises
