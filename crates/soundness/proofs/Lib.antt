pub mod Listings
pub mod Demands
pub mod Sound
pub mod Lawfulness
pub mod KeyOrder
pub mod RuleSearch
pub mod FormRanges
pub mod Asking
