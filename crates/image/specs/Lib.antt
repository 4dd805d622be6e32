pub mod Lookups
pub mod Loading
