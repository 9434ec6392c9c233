pub mod Maps
pub mod Served
