pub mod Cells
pub mod Staged
pub mod Refusals
pub mod Laws
pub mod Runs
pub mod Trials
