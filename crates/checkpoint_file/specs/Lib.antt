pub mod States
pub mod CheckpointStates
pub mod CheckpointSteps
pub mod Heads
pub mod Loads
pub mod Front
