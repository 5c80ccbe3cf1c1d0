pub mod TellLemmas
pub mod LineLemmas
pub mod FetchLemmas
pub mod RunLemmas
pub mod CompleteLemmas
