pub mod Counts
pub mod Crossing
pub mod Rooms
pub mod Views
