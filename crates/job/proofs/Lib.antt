pub mod Walks
pub mod Laying
pub mod Stepping
pub mod Goings
pub mod Rooms
pub mod Encodings
pub mod Bodies
