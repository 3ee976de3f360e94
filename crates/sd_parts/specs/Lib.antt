pub mod Parts
pub mod Seen
pub mod TreeCode
pub mod Work
pub mod Join
pub mod Alone
