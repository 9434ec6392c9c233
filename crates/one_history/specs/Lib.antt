pub mod Interleaving
pub mod Turns
pub mod OneHistory
pub mod SharedWords
pub mod Moves
