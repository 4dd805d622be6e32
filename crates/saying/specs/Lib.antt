pub mod Mute
pub mod Sizes
pub mod Laws
