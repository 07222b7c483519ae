-- Laws about the definitions of specs/, a file to a subject, and the proofs of the promises.
pub mod NumberLaws
pub mod Counts
pub mod Joined
pub mod Append
pub mod Formulas
pub mod Units
pub mod Register
pub mod Taken
pub mod Undo
pub mod AnyCounter
pub mod Counters
pub mod Standard
pub mod Texts
pub mod Recovering
pub mod LengthLaws
