pub mod Examples
pub mod Laws
pub mod Promises
pub mod Rule
pub mod Runs
