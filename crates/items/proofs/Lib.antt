pub mod Distinctness
pub mod Windows
pub mod Items
pub mod Edges
