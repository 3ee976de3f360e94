pub mod Grown
pub mod Paths
mod Placed
mod InHand
mod Steps
mod Reached
mod Defined
mod Falling
mod Closed
mod Ordered
mod Enough
mod Made
mod Outputs
mod Read
mod Sound
mod Valuing
