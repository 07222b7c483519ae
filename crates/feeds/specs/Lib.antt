-- Which calls are accepted, lists of feeds, the plain machine, and what is promised of them.
pub mod Accepts
pub mod Machine
pub mod Lists
pub mod Promises
pub mod Counters
