pub mod Orders
pub mod Parts
