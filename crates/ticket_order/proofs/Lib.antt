mod Apart
pub mod Longer
pub mod Taking
pub mod Walking
pub mod Left
pub mod Entries
