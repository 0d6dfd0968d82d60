pub mod Caches
pub mod Entries
pub mod Flags
pub mod Numbers
pub mod Owners
pub mod Recent
pub mod Ties
