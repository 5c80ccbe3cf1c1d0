pub mod AncestorLemmas
pub mod Lists
pub mod RowLemmas
pub mod TypeLemmas
pub mod InstructionLemmas
