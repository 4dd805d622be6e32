pub mod Search
pub mod Answered
pub mod Told
