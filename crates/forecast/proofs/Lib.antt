-- Laws about the definitions of specs/, a file to a subject, and the proofs of the promises.
pub mod CostLaws
pub mod PromiseLaws
