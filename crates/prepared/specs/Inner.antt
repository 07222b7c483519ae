-- For the crate's own functions: what is prepared, part by part. A reader of the promises can pass it over.
pub mod Parts
