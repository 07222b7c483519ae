-- When two sessions are alike, and what is promised of the test.
pub mod Alike
pub mod Promises
