pub mod Appended
pub mod Crossing
pub mod Marked
