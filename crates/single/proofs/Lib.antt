-- Laws about the definitions of specs/, a file to a subject, and the proofs of the promises.
pub mod NumberLaws
pub mod NeighbourLaws
pub mod AnswerLaws
pub mod AcceptLaws
pub mod RefusalLaws
pub mod FeedLaws
pub mod CallLaws
