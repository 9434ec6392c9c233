pub mod Histories
pub mod Laws
pub mod Maps
pub mod Parts
pub mod Steps
