-- For the crate's own functions: what one of them asks. A reader of the promises can pass it over.
pub mod Messages
