pub mod States
pub mod LogStates
pub mod LogSteps
pub mod Scan
pub mod ScanParts
pub mod Ahead
