pub mod InspectLemmas
