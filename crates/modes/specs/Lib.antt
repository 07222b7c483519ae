-- Sessions: what an opening and a feed give, and what is promised of one call.
pub mod Sessions
pub mod Inner
pub mod Promises
