pub mod Crossing
mod OneAnswer
