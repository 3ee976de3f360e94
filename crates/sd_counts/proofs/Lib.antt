pub mod OnStack
mod Queueing
mod Adding
mod Along
pub mod Sums
mod Bounds
mod Risen
mod TakenOff
mod Steps
mod Passes
mod Whole
mod Filled
pub mod Reached
pub mod StaysRight
mod Worked
