pub mod Held
pub mod Bytewise
pub mod Looked
