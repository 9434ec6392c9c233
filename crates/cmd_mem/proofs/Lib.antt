pub mod OwnEntry
pub mod Leaving
pub mod NewMaps
pub mod Releasing
pub mod Serving
