pub mod Amounts
pub mod Beside
pub mod Carrying
pub mod Counted
pub mod Deciding
pub mod Reach
pub mod Settling
pub mod Stretching
