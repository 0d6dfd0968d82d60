pub mod NoFloats
pub mod Numbers
pub mod ReadChanges
