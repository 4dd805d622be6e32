pub mod Membership
pub mod Codes
pub mod Enumeration
pub mod Uniqueness
