pub mod Seen
pub mod Depths
pub mod Lane
pub mod Laying
pub mod Forest
pub mod Low
pub mod Hung
pub mod Whole
