-- Laws about the definitions of specs/, a file to a subject.
pub mod HexLaws
