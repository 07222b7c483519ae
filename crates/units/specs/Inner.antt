-- For the sessions' own functions: one unit by the code. A reader of the promises can pass it over.
pub mod Turns
