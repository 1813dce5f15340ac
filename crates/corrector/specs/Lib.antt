pub mod Corrected
pub mod Starts
pub mod RowSteps
pub mod MendSteps
pub mod SearchSteps
