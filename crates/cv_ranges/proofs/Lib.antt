pub mod Members
pub mod Held
pub mod Lengths
pub mod Touched
pub mod Steps
