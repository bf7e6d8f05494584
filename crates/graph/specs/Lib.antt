pub mod Walk
pub mod Choke
pub mod Cable
pub mod Path
pub mod Renumbering
pub mod Statements
