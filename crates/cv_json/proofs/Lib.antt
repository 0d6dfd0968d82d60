pub mod Accepted
pub mod Built
pub mod Lens
pub mod NoFloats
pub mod RoundTrip
pub mod Slices
pub mod Steps
pub mod Written
