-- What the contracts of this crate cite: a block by prepared words; in `inner`, what only it and `prepared` need.
pub mod Inner
pub mod Block
