pub mod RowLemmas
pub mod CoverLemmas
pub mod PointLemmas
pub mod SoundLemmas
