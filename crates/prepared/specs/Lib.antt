-- What the contracts of this crate cite: what is prepared and run, and apart what only its own functions need.
pub mod Inner
pub mod Prepared
