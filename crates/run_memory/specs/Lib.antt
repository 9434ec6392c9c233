pub mod Stores
