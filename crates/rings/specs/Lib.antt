pub mod Tree
pub mod Network
pub mod Ring
pub mod Group
pub mod Statements
