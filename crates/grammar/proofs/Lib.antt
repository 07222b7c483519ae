-- Laws about the definitions of specs/, a file to a subject.
pub mod LineLaws
pub mod SizeLaws
pub mod ReadingLaws
pub mod EndedLaws
pub mod ExactLaws
