-- Laws about the definitions of specs/, a file to a subject.
pub mod StateLaws
pub mod MixLaws
pub mod StepLaws
pub mod MixRows
pub mod Owned
