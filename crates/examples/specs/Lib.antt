-- One table of worked examples, and its one test.
pub mod Examples
