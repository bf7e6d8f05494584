pub mod Printed
pub mod Worked
pub mod Turn
pub mod Telling
