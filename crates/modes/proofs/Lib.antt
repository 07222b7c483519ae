-- Laws about the definitions of specs/, a file to a subject, and the proofs of the promises.
pub mod WorkLaws
pub mod AnswerLaws
pub mod WrittenLaws
pub mod SessionLaws
pub mod FeedLaws
pub mod OpeningLaws
