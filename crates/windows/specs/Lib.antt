pub mod Strings
pub mod Sequences
