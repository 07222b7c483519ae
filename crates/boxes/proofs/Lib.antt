-- Laws about the definitions of specs/, a file to a subject.
pub mod ArrayLaws
pub mod BoxLaws
pub mod TableLaws
