pub mod Worked
pub mod Fuel
pub mod Printing
pub mod Turning
pub mod Telling
