mod WritingLemmas
pub mod Versions
