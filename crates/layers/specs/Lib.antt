pub mod Hidden
pub mod Small
pub mod Choice
pub mod HiddenLemmas
pub mod Kept
pub mod SmallLemmas
