pub mod Crossing
pub mod KeptLaws
pub mod LeftRuns
pub mod LongerHistories
pub mod TouchedMarks
pub mod TouchedPlaces
