pub mod Together
pub mod Standing
pub mod Symbols
pub mod Inclusive
