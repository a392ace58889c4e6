pub mod Checking
pub mod Cuts
pub mod Numerals
pub mod Order
pub mod Refusals
