pub mod Meaning
pub mod Reciprocal
pub mod Tables
pub mod Symbols
pub mod Sums
pub mod Lifted
pub mod Rows
