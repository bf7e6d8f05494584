pub mod Plan
pub mod Written
pub mod Said
pub mod Statements
pub mod Worked
pub mod Filling
pub mod Lent
