pub mod Euclid
pub mod Prime
