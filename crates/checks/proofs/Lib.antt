pub mod Searching
pub mod Depths
pub mod DepthTable
pub mod TreeVerdicts
pub mod Grounded
pub mod LinkByLink
pub mod Keeping
pub mod Checking
