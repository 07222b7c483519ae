-- Laws about the older release's own text, about two limits and about one feed, and the proofs of the promises.
pub mod AskedLaws
pub mod GivenLaws
pub mod LimitLaws
pub mod CarryLaws
pub mod PastLaws
pub mod ListLaws
