pub mod Names
pub mod Values
pub mod Calls
pub mod Whole
pub mod Answers
pub mod Agreement
pub mod Naming
pub mod Printing
