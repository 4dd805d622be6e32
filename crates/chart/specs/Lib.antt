pub mod Places
pub mod Index
pub mod Rows
pub mod Forms
