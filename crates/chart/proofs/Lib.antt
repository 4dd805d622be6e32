pub mod Holding
pub mod Chains
pub mod Filling
pub mod Walks
pub mod Forming
