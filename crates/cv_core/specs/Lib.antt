pub mod Changes
pub mod Cores
pub mod Ends
pub mod Kept
pub mod Solos
pub mod Tailing
pub mod Versioned
