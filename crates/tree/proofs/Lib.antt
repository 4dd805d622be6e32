pub mod Filled
pub mod Same
