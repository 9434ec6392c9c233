pub mod Doings
pub mod WordsInWorld
pub mod Workers
pub mod Laws
