pub mod Growth
pub mod Spaced
