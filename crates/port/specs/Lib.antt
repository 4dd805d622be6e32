pub mod SmallPort
pub mod Cases
