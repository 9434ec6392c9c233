pub mod Appending
pub mod Exchanging
pub mod Telling
pub mod Reading
