pub mod Steps
pub mod Tried
pub mod Twos
