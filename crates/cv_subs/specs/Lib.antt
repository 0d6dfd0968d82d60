pub mod Subs
pub mod Codes
pub mod Laws
pub mod Views
