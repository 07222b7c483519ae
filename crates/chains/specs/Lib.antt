-- What a chain of blocks gives.
pub mod Chains
