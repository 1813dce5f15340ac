pub mod Pairs
pub mod Answer
pub mod Sides
pub mod RowSteps
pub mod PairSteps
pub mod BasisSteps
pub mod WriteSteps
