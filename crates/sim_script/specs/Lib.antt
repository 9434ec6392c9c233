pub mod LineWords
pub mod Lines
pub mod Scripts
pub mod Spans
pub mod Texts
