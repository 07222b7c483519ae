-- Sessions as C holds them: which session a struct stands for, what open and feed answer and write, and what is
-- promised of that.
pub mod Held
pub mod Calls
pub mod Promises
