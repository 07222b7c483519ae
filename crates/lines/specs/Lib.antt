-- What the text program prints, for every input.
pub mod Answer
