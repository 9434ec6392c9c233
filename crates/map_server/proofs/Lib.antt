pub mod CommandLines
pub mod Getters
pub mod Lines
pub mod Playing
