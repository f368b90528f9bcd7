pub mod Seeded
pub mod Digests
pub mod Jobs
