pub mod Capturing
pub mod Checkpointing
pub mod Walking
