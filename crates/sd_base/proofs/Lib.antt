pub mod AskedLemmas
pub mod FaultTexts
pub mod FileLemmas
mod MemoryLemmas
pub mod NextLine
pub mod Pieces
mod ReadLemmas
