-- Laws about the definitions of specs/, a file to a subject.
pub mod Tables
pub mod Xor
pub mod Texts
pub mod Xors
pub mod Counter
pub mod Counting
pub mod Lists
pub mod TestLaws
pub mod Arrays
pub mod Owned
pub mod Windows
pub mod Packed
pub mod Fills
pub mod Made
pub mod Registers
pub mod Places
