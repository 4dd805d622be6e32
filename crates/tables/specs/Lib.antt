-- What a table holds.
pub mod Held
