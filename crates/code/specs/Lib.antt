pub mod Refusals
pub mod Shape
pub mod Words
pub mod Fitting
pub mod Sought
pub mod Distance
