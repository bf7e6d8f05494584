pub mod Fit
pub mod Started
pub mod TreeCheck
pub mod RulesCheck
