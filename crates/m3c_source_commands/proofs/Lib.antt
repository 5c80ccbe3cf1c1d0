pub mod SourceLemmas
pub mod OrderLemmas
pub mod UsageLemmas
