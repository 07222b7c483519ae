-- Laws about the definitions of specs/, and the proof of the promise.
pub mod SameLaws
pub mod AlikeLaws
