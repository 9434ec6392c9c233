pub mod Numbers
pub mod Reading
pub mod Taking
pub mod Lines
