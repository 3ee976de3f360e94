pub mod Answers
pub mod Calls
pub mod ByHalves
pub mod Kept
