pub mod Front
pub mod Inside
pub mod Shown
