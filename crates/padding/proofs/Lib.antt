-- Laws about the definitions of specs/, a file to a subject, and the proofs of the promises.
pub mod NumberLaws
pub mod PadLaws
pub mod OneLaws
pub mod CutLaws
pub mod AnswerLaws
pub mod PromiseLaws
pub mod LastBlockLaws
pub mod AcceptLaws
