pub mod Deciding
pub mod Starts
