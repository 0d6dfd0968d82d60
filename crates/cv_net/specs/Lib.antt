pub mod Addresses
pub mod Counts
pub mod Heard
pub mod Moments
