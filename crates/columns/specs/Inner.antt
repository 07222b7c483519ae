-- For the functions of this crate and of `prepared`: the words, and what the rounds make of them. A reader of the
-- promises can skip these.
pub mod Words
pub mod Rounds
