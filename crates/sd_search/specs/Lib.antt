pub mod Search
pub mod Kept
pub mod Paths
pub mod Walking
pub mod WalksInARow
