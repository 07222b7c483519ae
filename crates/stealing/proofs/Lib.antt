-- Laws about the definitions of specs/, a file to a subject, and the proofs of the promises.
pub mod KeyLaws
pub mod NumberLaws
pub mod MessageLaws
pub mod AnswerLaws
pub mod PromiseLaws
pub mod AcceptLaws
