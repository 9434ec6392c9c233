pub mod HandSteps
pub mod Gathering
pub mod Sweeping
pub mod KeeperSteps
pub mod Rotating
pub mod Fitting
