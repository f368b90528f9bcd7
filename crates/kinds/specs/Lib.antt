pub mod Rules
pub mod Facts
pub mod Sums
pub mod Models
pub mod Balance
pub mod Texts
