-- The counter, byte by byte.
pub mod Overflows
