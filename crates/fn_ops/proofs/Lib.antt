pub mod Fits
pub mod Kept
pub mod Parts
pub mod Ranges
pub mod ReadBack
pub mod Views
