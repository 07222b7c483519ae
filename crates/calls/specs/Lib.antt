-- Lists of calls, and what holds of them.
pub mod Calls
pub mod Promises
