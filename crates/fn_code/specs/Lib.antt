pub mod CodeMeans
pub mod Coding
pub mod Operands
pub mod States
pub mod Steps
pub mod Weights
