-- The words that the contracts of a stack cite.
pub mod Held
