pub mod WriteLemmas
pub mod PlainLemmas
pub mod Again
pub mod Missing
pub mod AgainRows
pub mod PlainFits
