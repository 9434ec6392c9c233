pub mod Agreement
pub mod Layout
pub mod Methods
pub mod Spelling
pub mod Reading
