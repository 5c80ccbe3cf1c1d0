pub mod CellLemmas
pub mod CollectLemmas
pub mod ListLemmas
pub mod MoveLemmas
pub mod OnceLemmas
pub mod PlaceLemmas
pub mod StayLemmas
pub mod ThreadLemmas
