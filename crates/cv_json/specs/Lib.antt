pub mod Base64
pub mod Json
pub mod Ranges
pub mod Reads
pub mod Timestamps
