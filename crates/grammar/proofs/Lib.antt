pub mod Nth
pub mod PhraseWalks
pub mod Takes
pub mod Optional
pub mod FormRanges
pub mod Ranges
pub mod Sameness
