pub mod ListLemmas
pub mod FirstLemmas
pub mod CodeLemmas
pub mod ProcLemmas
pub mod ShapeLemmas
