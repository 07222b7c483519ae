-- Laws about the definitions of specs/, a file to a subject.
pub mod FieldLaws
pub mod Linear
pub mod Inverses
pub mod Fours
pub mod RowLaws
