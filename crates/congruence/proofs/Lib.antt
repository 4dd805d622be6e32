pub mod Strings
pub mod Nodes
pub mod Levels
