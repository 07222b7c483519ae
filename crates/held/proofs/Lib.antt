-- The laws of this crate's proofs.
pub mod Laws
pub mod CallLaws
