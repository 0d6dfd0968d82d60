pub mod Paused
pub mod Pauses
pub mod Rest
pub mod RunParts
pub mod Snapshots
pub mod Unders
