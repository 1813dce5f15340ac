pub mod Powering
pub mod Rounding
pub mod Valuing
