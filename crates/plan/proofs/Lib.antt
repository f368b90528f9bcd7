mod Accepted
mod Entries
mod Following
pub mod Editing
mod Elements
mod Extents
mod Asking
mod Overriding
mod Junctions
mod Running
mod Alike
mod Kept
