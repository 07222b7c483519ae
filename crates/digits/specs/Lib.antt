-- Texts as bytes, and the digits in them.
pub mod Texts
