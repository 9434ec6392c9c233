pub mod Client
pub mod Places
pub mod Lines
pub mod Rounds
pub mod Inputs
pub mod Calling
