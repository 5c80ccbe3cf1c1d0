pub mod Statuses
pub mod Refusals
pub mod Reports
pub mod ImageCommands
pub mod Complete
