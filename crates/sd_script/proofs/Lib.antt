pub mod Ascii
pub mod TableLaws
pub mod Marking
pub mod Writing
pub mod Seeing
pub mod Allowed
pub mod FewLines
pub mod FaultBack
mod Rows
