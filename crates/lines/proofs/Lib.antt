-- Laws about the definitions of specs/, a file to a subject.
pub mod WrittenLines
pub mod NumberBounds
pub mod FeedLines
pub mod RequestLines
pub mod InputSize
pub mod PrintedLaws
