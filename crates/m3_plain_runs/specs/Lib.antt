pub mod EndsAs
