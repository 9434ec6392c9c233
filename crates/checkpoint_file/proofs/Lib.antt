mod Bounds
pub mod Versions
mod FileSteps
mod EntryLemmas
pub mod StandingLemmas
mod CallLemmas
mod AdvanceLemmas
mod StagingLemmas
mod LookLemmas
mod HeadLemmas
mod PlaceLemmas
mod FrontLemmas
mod EntryReading
mod SectionReading
mod WholeFiles
