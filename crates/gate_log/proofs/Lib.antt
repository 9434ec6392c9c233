pub mod RecordLemmas
pub mod StandingLemmas
pub mod AdvanceLemmas
pub mod AheadLemmas
pub mod CallLemmas
pub mod CommitLemmas
pub mod Scanning
pub mod Entries
pub mod Bodies
pub mod Heads
pub mod Headers
pub mod Steps
mod Finding
mod GateReads
