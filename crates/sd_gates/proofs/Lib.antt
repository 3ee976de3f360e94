mod Descending
mod Holding
mod Signs
-- what crates above cite
pub mod Shared
