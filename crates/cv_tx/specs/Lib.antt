pub mod Asks
pub mod Codes
pub mod Merged
pub mod Pending
pub mod Plans
pub mod PutsLaid
