pub mod Laying
pub mod Appending
pub mod Digits
pub mod OneLine
pub mod Lines
pub mod Widths
pub mod Reporting
