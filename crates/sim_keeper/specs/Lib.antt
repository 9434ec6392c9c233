pub mod Showing
pub mod KeeperInWorld
pub mod Telling
pub mod Promises
pub mod Laws
