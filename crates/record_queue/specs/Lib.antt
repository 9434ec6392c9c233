pub mod Backlog
