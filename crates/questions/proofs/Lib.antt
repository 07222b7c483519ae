-- Laws about the definitions of specs/, a file to a subject.
pub mod QuestionLaws
pub mod SentenceLaws
pub mod BoundLaws
pub mod RefusalLaws
