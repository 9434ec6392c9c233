pub mod Names
pub mod Binding
