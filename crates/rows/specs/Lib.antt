pub mod Shape
pub mod Hands
pub mod Edits
pub mod FreeList
pub mod Layouts
