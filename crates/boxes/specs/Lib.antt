-- The two S-boxes by their rule, and what is promised of it.
pub mod Boxes
pub mod Promises
