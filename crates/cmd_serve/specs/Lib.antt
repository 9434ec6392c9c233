pub mod WholeMap
pub mod Opening
pub mod Reading
pub mod Serving
pub mod Listening
pub mod Settings
