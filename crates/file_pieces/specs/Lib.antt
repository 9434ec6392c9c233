pub mod Faults
pub mod Buffer
pub mod Pieces
pub mod Counting
