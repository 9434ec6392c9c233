pub mod Bulk
pub mod Tallies
pub mod Nearest
pub mod ViewState
pub mod Parts
pub mod Laws
pub mod Completing
pub mod Answering
