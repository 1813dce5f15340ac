pub mod Shapes
pub mod Plain
pub mod Means
pub mod Held
