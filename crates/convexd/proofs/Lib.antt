pub mod Checking
pub mod Commands
pub mod Replayed
pub mod Replaying
pub mod Walked
pub mod Writes
