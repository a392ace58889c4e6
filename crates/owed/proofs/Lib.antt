pub mod Front
pub mod Order
pub mod Ranks
pub mod There
