-- Laws about the definitions of specs/, a file to a subject.
pub mod Filled
pub mod WordLaws
pub mod KeyLaws
