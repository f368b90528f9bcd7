pub mod Runs
mod Shifts
pub mod Rulings
