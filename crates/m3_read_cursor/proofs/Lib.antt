pub mod RefusalLaws
pub mod Rests
pub mod PlaceLaws
