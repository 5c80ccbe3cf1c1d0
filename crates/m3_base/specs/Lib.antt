pub mod Faults
pub mod Rules
pub mod ScheduleRefusals
pub mod Schedules
pub mod Words
pub mod Integers
