pub mod Encodes
pub mod Syndromes
pub mod Register
