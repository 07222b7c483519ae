-- FIPS 197's block functions in their own steps and names, and what is promised of them.
pub mod Cipher
pub mod Promises
