pub mod Search
pub mod Table
pub mod Laid
pub mod Member
