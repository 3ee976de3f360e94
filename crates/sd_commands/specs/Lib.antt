pub mod Commands
pub mod Effects
pub mod Fits
pub mod Growing
pub mod Joining
pub mod Opening
pub mod Standing
