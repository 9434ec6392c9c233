pub mod Connection
pub mod Dialogue
pub mod Driving
pub mod Moves
pub mod Owning
pub mod Past
pub mod Progress
