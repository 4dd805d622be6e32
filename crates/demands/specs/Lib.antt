pub mod Check
pub mod Told
