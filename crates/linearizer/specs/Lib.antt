-- The words that the contracts of writing cite.
pub mod Frames
pub mod Written
pub mod Says
pub mod Laws
pub mod TextLines
pub mod Texts
