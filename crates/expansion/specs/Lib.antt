-- FIPS 197's key expansion in its own steps and names.
pub mod KeyExpansion
