pub mod Sharing
pub mod Making
pub mod Holding
