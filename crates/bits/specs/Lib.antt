-- What the contracts of this crate, and of the crates above it, cite.
pub mod Xor
pub mod Texts
pub mod Blocks
pub mod Counter
