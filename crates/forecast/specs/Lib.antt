-- What a forecast answers, and what is promised of it.
pub mod Costs
pub mod Promises
