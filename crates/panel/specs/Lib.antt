pub mod Whole
pub mod Standing
