pub mod Nodes
pub mod Walks
pub mod Laws
