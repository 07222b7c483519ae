-- Laws about the definitions of specs/, a file to a subject, and the proofs of the promises.
pub mod AcceptLaws
pub mod ListLaws
pub mod OpenedFeeds
pub mod DemandTwo
pub mod MachineLaws
pub mod AgreementLaws
pub mod RegisterLaws
pub mod UsedLaws
pub mod DemandThree
pub mod CounterLaws
pub mod WholeBlockLaws
