-- From a counter block back to its number in the message: what the call answers, and what is promised of it.
pub mod Answers
pub mod Promises
