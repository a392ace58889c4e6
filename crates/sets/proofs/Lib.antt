pub mod Harmonic
pub mod Spread
pub mod Step
pub mod Sums
