pub mod Growing
pub mod Answering
mod Refusing
mod KeeperLaws
mod Sections
mod Between
mod Sealed
mod Ahead
mod Causes
mod Released
pub mod Viewing
pub mod Crosses
