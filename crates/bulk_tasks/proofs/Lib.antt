pub mod AnyOrder
pub mod Joining
pub mod Nearing
pub mod Apart
pub mod Walked
mod Completing
mod Answering
mod Adding
mod InTurn
