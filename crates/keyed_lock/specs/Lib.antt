pub mod Guarding
pub mod Locks
