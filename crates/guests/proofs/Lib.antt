pub mod Failing
pub mod Masks
pub mod Sums
pub mod Taken
