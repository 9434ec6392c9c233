pub mod Rule
pub mod Plays
pub mod Placed
pub mod Passes
pub mod Holding
pub mod Waits
pub mod Fronts
pub mod OneOrder
