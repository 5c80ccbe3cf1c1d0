pub mod Programs
pub mod Images
pub mod ProgramViews
pub mod Views
pub mod Sound
