pub mod Codes
pub mod Read
pub mod Laws
