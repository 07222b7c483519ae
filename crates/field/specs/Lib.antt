-- Bytes as elements of the field of FIPS 197 section 4.
pub mod Field
pub mod Rows
pub mod Promises
