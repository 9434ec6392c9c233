pub mod CommandLine
pub mod Descriptors
pub mod Program
pub mod Simulation
