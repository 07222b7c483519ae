-- What the exports answer where a crate's own contract does not say it already, and what is promised of lists of calls
-- from C.
pub mod Sessions
pub mod Answers
pub mod Promises
