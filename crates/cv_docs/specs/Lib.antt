pub mod Entries
pub mod Rows
pub mod Cut
pub mod Codes
pub mod Numbered
pub mod History
pub mod IndexRows
