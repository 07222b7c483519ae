-- The state and the steps of a round, in the words of FIPS 197.
pub mod State
pub mod Steps
