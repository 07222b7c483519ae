-- When there is a reason for a 12.
pub mod Reasons
