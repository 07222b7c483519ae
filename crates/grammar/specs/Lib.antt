-- What the four lines of the text program are.
pub mod Grammar
pub mod Reading
pub mod Answers
