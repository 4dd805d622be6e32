pub mod Muteness
pub mod Lengths
pub mod Places
