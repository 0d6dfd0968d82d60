pub mod Chosen
pub mod Numbers
pub mod Places
pub mod Rising
pub mod AtNumbers
pub mod Hits
pub mod Read
pub mod Searched
