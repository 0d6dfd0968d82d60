pub mod Orders
pub mod Newest
pub mod Later
pub mod Behind
pub mod Allowed
pub mod Taking
pub mod Crossing
