mod PrepareLaws
mod EmptyLaws
pub mod Crosses
pub mod GrowthLaws
