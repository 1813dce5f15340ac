pub mod Tests
pub mod Symbols
pub mod Powers
pub mod Order
pub mod Tables
pub mod Reciprocals
pub mod Lifting
pub mod Parts
