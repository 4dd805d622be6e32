pub mod Runs
pub mod Sections
