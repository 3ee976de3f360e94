pub mod Counts
pub mod Queued
pub mod Right
pub mod Uses
