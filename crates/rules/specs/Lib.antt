-- The five modes over any two block functions: the unit rules, SP 800-38A by index, and what is promised of them.
pub mod Numbers
pub mod Lengths
pub mod Rules
pub mod Standard
pub mod Recovery
pub mod Promises
