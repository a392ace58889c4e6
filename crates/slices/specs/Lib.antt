pub mod Answers
pub mod Calls
pub mod Steps
pub mod Stretches
