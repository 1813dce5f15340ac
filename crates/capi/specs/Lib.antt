pub mod Status
pub mod Outcomes
