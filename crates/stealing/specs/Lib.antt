-- Ciphertext stealing for CBC: what the calls answer, and what is promised of them.
pub mod Inner
pub mod Calls
pub mod Promises
