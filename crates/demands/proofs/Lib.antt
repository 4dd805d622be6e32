pub mod Demands
pub mod Keys
