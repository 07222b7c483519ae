-- What pad and unpad answer, and what is promised of them.
pub mod Padding
pub mod Promises
