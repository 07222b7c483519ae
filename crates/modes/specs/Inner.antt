-- For the sessions' own functions: an opening, and the loop over a feed's units. A reader of the promises can pass it
-- over.
pub mod Openings
pub mod Works
