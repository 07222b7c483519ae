-- For the calls' own functions: the last two blocks by the code. A reader of the promises can skip it.
pub mod Endings
