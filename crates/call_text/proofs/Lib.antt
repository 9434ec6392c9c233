pub mod ValueWords
pub mod CallWords
pub mod Thresholds
pub mod WholeWords
