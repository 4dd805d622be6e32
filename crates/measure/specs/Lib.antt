pub mod Sizes
pub mod Sums
pub mod Measured
pub mod Scanned
