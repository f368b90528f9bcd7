pub mod Models
pub mod Keeping
pub mod Meaning
pub mod Promises
pub mod Calls
pub mod Kept
pub mod Worked
pub mod Texts
