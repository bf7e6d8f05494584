pub mod Record
pub mod File
pub mod Next
pub mod Reading
