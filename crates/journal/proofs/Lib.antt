mod Resting
mod Releasing
mod FirstPasses
pub mod Crosses
