pub mod Checks
pub mod Notations
pub mod Checked
pub mod Notated
pub mod Spelled
pub mod Asked
