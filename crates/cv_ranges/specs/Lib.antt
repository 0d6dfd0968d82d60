pub mod Held
pub mod Hits
pub mod Laws
