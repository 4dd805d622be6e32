-- Lemmas on writing.
pub mod Walking
pub mod Spelled
pub mod Stacked
pub mod Owed
pub mod Going
pub mod Turns
pub mod Saying
pub mod OneAnswer
