pub mod Reads
pub mod Steps
pub mod Ids
pub mod Placing
