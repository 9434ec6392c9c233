pub mod Keys
pub mod Limits
pub mod Numbers
pub mod Reducing
pub mod Refusals
pub mod ValueEq
