mod DividingLemmas
mod GroupingLemmas
mod LaneLemmas
mod CountingLemmas
mod PrefixLemmas
mod ReplayLemmas
mod LogReadingLemmas
mod HeadsLemmas
mod OpeningLemmas
mod CallLemmas
pub mod SyncingLemmas
mod FirstBytes
mod OneFileLemmas
mod NewStoreLemmas
mod GateClosing
mod Sealing
mod LogBeginning
mod Making
mod NewFiles
mod FormattingLemmas
mod Unmoved
mod OnePass
mod ThreeSteps
mod Sections
mod StaysUnmoved
mod RefusedBehind
mod Rotation
mod Upgraded
pub mod Finding
pub mod FirstPasses
