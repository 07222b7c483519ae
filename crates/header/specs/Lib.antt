-- The words of the first line.
pub mod Header
