pub mod EntryLaws
pub mod FoldLaws
pub mod HistoryLaws
pub mod KeyLaws
pub mod MapLaws
pub mod UnionLaws
