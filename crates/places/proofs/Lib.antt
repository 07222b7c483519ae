-- Laws about the definitions of specs/, a file to a subject, and the proofs of the promises.
pub mod WideLaws
pub mod AnswerLaws
pub mod ToldLaws
pub mod SessionLaws
