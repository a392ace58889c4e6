pub mod Faults
pub mod Guests
pub mod Numbers
