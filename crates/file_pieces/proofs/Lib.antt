pub mod BufferLemmas
pub mod PieceLemmas
