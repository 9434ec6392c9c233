pub mod Memory
pub mod Records
pub mod Legality
pub mod StepRules
pub mod Calls
pub mod Walks
pub mod Sizes
pub mod Growing
