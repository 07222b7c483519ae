-- The laws of this crate's proofs.
mod AnswerLaws
mod ListLaws
