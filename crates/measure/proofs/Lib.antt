pub mod Asked
pub mod Adding
pub mod Mapped
pub mod Ruled
pub mod Rows
pub mod Nodes
pub mod Scans
