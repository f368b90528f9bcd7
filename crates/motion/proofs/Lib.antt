pub mod Rooted
pub mod Figures
pub mod Lawfulness
pub mod Blocking
pub mod Parting
pub mod Passing
pub mod Laying
pub mod Boxing
