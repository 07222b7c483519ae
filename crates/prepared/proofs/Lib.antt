-- Laws about the definitions of specs/, a file to a subject.
pub mod DoublingLaws
pub mod KeyLaws
pub mod FillLaws
pub mod TableLaws
pub mod ForwardLaws
pub mod BackwardLaws
pub mod PartLaws
pub mod PreparedLaws
