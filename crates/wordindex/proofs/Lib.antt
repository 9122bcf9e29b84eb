pub mod IndexSteps
pub mod Index
