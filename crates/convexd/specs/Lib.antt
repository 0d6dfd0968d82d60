pub mod Answering
pub mod Check
pub mod Commands
pub mod Exits
pub mod Lines
